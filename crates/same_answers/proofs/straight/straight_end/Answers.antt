use Rattle.std.proofs.Common.{◌∙◌, not, sym, ap, Option, take_all}
use Rattle.std.specs.List.{find}
use Rattle.std.specs.Option.{option_map_or}
use Rattle.dns_data.specs.RrType.{types}
use Rattle.dns_data.specs.declared.rr_type.RrType.{RrType}
use Rattle.straight_walks.specs.Ends.{ends_alike}
use Rattle.same_answers.specs.declared.verdict.PairEnd.TheVariants.{Equal, Apart}
use Rattle.same_answers.proofs.FoundNext.{found_next, none_next}
use Rattle.same_answers.proofs.straight.straight_end.Goals as goal

pub returns-then-not-are_alike : goal.returns-then-not-are_alike
returns-then-not-are_alike c =
    ap (λ (found : Option RrType). option_map_or Apart found Equal)
    (sym (found_next (λ rtype. not (ends_alike c.args.first.now c.args.second.now rtype)) types c.loop-rtype.rtype-index _ c.loop-rtype-test.true
    c.loop-rtype.invariant (ap not (sym c.are_alike.ensures ∙ c.if-not-are_alike.true))))

pub loop-rtype-preserved : goal.loop-rtype-preserved
loop-rtype-preserved c =
    none_next (λ rtype. not (ends_alike c.args.first.now c.args.second.now rtype)) types c.loop-rtype.rtype-index _ c.loop-rtype-test.true
    c.loop-rtype.invariant (ap not (sym c.are_alike.ensures ∙ c.if-not-are_alike.false))

pub returns : goal.returns
returns c =
    ap (λ (found : Option RrType). option_map_or Apart found Equal)
    (sym (ap (find (λ rtype. not (ends_alike c.args.first.now c.args.second.now rtype))) (sym (take_all c.loop-rtype.rtype-index types c.loop-rtype-test.false)) ∙ c.loop-rtype.invariant))
