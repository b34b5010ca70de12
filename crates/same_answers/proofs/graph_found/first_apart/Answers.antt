use Rattle.std.proofs.Common.{◌∙◌, not, sym, ap}
use Rattle.dns_data.specs.RrType.{types}
use Rattle.same_answers.specs.Ends.{graphs_alike}
use Rattle.same_answers.proofs.FoundNext.{found_next, none_next}
use Rattle.same_answers.proofs.graph_found.first_apart.Goals as goal

pub returns-then-not-branch : goal.returns-then-not-branch
returns-then-not-branch c =
    sym (found_next (λ rtype. not (graphs_alike c.args.first.now c.args.second.now rtype)) types c.loop-rtype.rtype-index _ c.loop-rtype-test.true
    c.loop-rtype.invariant (ap not (sym c.in_ok-graphs_alike.ensures ∙ c.if-not-branch.true)))

pub loop-rtype-preserved : goal.loop-rtype-preserved
loop-rtype-preserved c =
    none_next (λ rtype. not (graphs_alike c.args.first.now c.args.second.now rtype)) types c.loop-rtype.rtype-index _ c.loop-rtype-test.true
    c.loop-rtype.invariant (ap not (sym c.in_ok-graphs_alike.ensures ∙ c.if-not-branch.false))
