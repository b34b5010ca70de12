use Rattle.std.proofs.Common.{◌∙◌, [], Some, refl, sym, ap, arith}
use Rattle.std.specs.Prelude.{not}
use Rattle.std.proofs.lemmas.Result.{IfOk-weaker}
use Rattle.net_model.proofs.Naming.{is_listed}
use Rattle.part_laws.proofs.WithPrefixes.{root_there}
use Rattle.part_checks.specs.Outside.{is_outside}
use Rattle.part_checks.specs.Parts.{held_by}
use Rattle.part_checks.proofs.Prefixes.{finds_last, finds_next, passes_next}
use Rattle.part_checks.proofs.sets.NameSets.front_outside.Goals as goal

pub loop-count-init : goal.loop-count-init
loop-count-init c =
    let names = c.args.self.now in
    passes_next (is_outside names) c.args.name.now 0 [] refl (omega arith) refl (ap not (is_listed (held_by names) [] (root_there names.held)))

pub returns-then-not-has : goal.returns-then-not-has
returns-then-not-has c =
    sym (finds_next (is_outside c.args.self.now) c.args.name.now c.loop-count.count c.in_ok-front.front c.loop-count.invariant (omega (arith, c.loop-count-test.true, c.loop-count.auto.count-end, c.len-count-end.ensures.value))
    c.in_ok-front.ensures (ap not (sym c.has.ensures ∙ c.if-not-has.true)))

pub loop-count-preserved : goal.loop-count-preserved
loop-count-preserved c =
    passes_next (is_outside c.args.self.now) c.args.name.now c.loop-count.count c.in_ok-front.front c.loop-count.invariant (omega (arith, c.loop-count-test.true, c.loop-count.auto.count-end, c.len-count-end.ensures.value))
    c.in_ok-front.ensures (ap not (sym c.has.ensures ∙ c.if-not-has.false))

pub returns : goal.returns
returns c =
    IfOk-weaker c.copy.result _ _
    (λ name is. finds_last (is_outside c.args.self.now) c.args.name.now c.loop-count.count c.loop-count.invariant (omega (arith, c.loop-count-test.false, c.loop-count.auto.count-end, c.len-count-end.ensures.value)) (ap not c.requires)
    ∙ ap Some (sym is)) c.copy.ensures
