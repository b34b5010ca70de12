use Rattle.straight_walks.proofs.Blackholes.{put_aliased}
use Rattle.straight_walks.proofs.ends.StraightEnds.put_with_fault.Goals as goal

pub returns : goal.returns
returns c = λ yes.
    put_aliased c.args.self.now c.put.new.self c.args.answer c.args.rewrites c.args.fault c.push.new.self c.in_ok-push.ensures.ok (c.put.ensures yes)
