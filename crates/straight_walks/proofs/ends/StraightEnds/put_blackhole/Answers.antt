use Rattle.std.proofs.Common.{false, None, subst}
use Rattle.straight_walks.specs.Answers.{AnswerOwners, answering_by}
use Rattle.straight_walks.specs.Nowhere.{untold}
use Rattle.straight_walks.specs.Searching.{AnswerIsPut}
use Rattle.straight_walks.proofs.Blackholes.{put_placed}
use Rattle.straight_walks.proofs.ends.StraightEnds.put_blackhole.Goals as goal

pub returns : goal.returns
returns c = λ yes.
    put_placed c.args.self.now c.put.new.self (answering_by c.args.tree.now None) c.args.rewrites c.args.place c.push.new.self c.in_ok-push.ensures.ok
    (subst (λ (answering : AnswerOwners). AnswerIsPut (record c.args.self.now { blackholes = c.push.new.self }) answering c.args.rewrites false untold c.put.new.self)
    c.of_nothing.ensures (c.put.ensures yes))
