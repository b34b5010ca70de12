use Rattle.std.proofs.Common.{Some, ap, sym, ◌∙◌}
use Rattle.std.proofs.lemmas.Bool.{or_from}
use Rattle.std.proofs.lemmas.List.Folds.{list_any_more}
use Rattle.interp_graph.specs.StateKey.{state_eq, state_decides}
use Rattle.interp_graph.proofs.ItemsByNumber.{item_is}
use Rattle.interp_graph.proofs.key_set.number_of.Goals as goal

pub loop-number-preserved : goal.loop-number-preserved
loop-number-preserved c =
    list_any_more (state_eq c.args.key.now) c.args.keys.now c.loop-number.number c.index-keys-number.result c.loop-number-test.true
    ∙ or_from _ _ c.loop-number.invariant (ap (state_eq c.args.key.now) (sym c.index-keys-number.is) ∙ (sym c.eq.ensures ∙ c.if-eq.false))

pub returns-then-eq-clause-some : goal.returns-then-eq-clause-some
returns-then-eq-clause-some c =
    item_is c.args.keys.now c.loop-number.number c.index-keys-number.result c.loop-number-test.true c.index-keys-number.is
    ∙ ap Some (sym ((state_decides c.args.key.now c.index-keys-number.result).0 (sym c.eq.ensures ∙ c.if-eq.true)))
