use Rattle.std.proofs.Common.{◌∙◌, map, Bor, sym}
use Rattle.net_model.specs.declared.walk.Leaf.{Leaf}
use Rattle.dns_data.proofs.Membership.{map_has}
use Rattle.same_answers.specs.Outcomes.{has_outcome}
use Rattle.same_answers.proofs.OutcomeSets.{not_all}
use Rattle.same_answers.proofs.outcomes.has_all.Goals as goal

pub returns-then-not-has : goal.returns-then-not-has
returns-then-not-has c =
    let some = c.args.some.now in
    let item = c.leaf-item.result in
    sym (not_all (has_outcome c.args.known.now) (map (λ (end : Bor Leaf). end.now) some) item.now
    (map_has (λ (end : Bor Leaf). end.now) some item (c.loop-leaf.leaf-index, c.loop-leaf-test.true, sym c.leaf-item.is))
    (sym c.has.ensures ∙ c.if-not-has.true))
