use Rattle.std.proofs.Common.{◌∙◌, Some, length, sym, ap, arith, take_all}
use Rattle.std.specs.Prelude.{◌&&◌}
use Rattle.dns_data.specs.Name.{Labels}
use Rattle.part_names.specs.PartNames.{is_own}
use Rattle.part_checks.specs.Outside.{is_outside}
use Rattle.part_checks.proofs.LeavingNames.{no_longer, own_behind, skips_held}
use Rattle.part_checks.proofs.Prefixes.{finds_last, finds_next, finds_no_last, passes_next}
use Rattle.part_checks.proofs.sets.NameSets.own_outside.Goals as goal

pub loop-count-init : goal.loop-count-init
loop-count-init c = record {
  behind = omega (arith, c.len-count.ensures.value);
  passed = skips_held c.args.self.now c.args.name.now c.args.front.now c.requires c.len-count.result (omega (arith, c.len-count.ensures.value));
}

pub returns-then-is_own : goal.returns-then-is_own
returns-then-is_own c =
    let names = c.args.self.now in
    let name = c.args.name.now in
    let k = c.loop-count.count in
    finds_next (λ (above : Labels). is_outside names above && is_own names above) name k c.in_ok-longer.longer c.loop-count.invariant.passed
    (omega (arith, c.loop-count-test.true, c.loop-count.auto.count-end, c.len-count-end.ensures.value)) c.in_ok-longer.ensures
    (own_behind names name c.args.front.now c.requires k c.in_ok-longer.longer c.loop-count.invariant.behind c.in_ok-longer.ensures ∙ (sym c.is_own.ensures ∙ c.if-is_own.true))

pub loop-count-preserved : goal.loop-count-preserved
loop-count-preserved c =
    let names = c.args.self.now in
    let name = c.args.name.now in
    let k = c.loop-count.count in
    record {
      behind = omega (arith, c.loop-count.invariant.behind);
      passed = passes_next (λ (above : Labels). is_outside names above && is_own names above) name k c.in_ok-longer.longer c.loop-count.invariant.passed
          (omega (arith, c.loop-count-test.true, c.loop-count.auto.count-end, c.len-count-end.ensures.value)) c.in_ok-longer.ensures
          (own_behind names name c.args.front.now c.requires k c.in_ok-longer.longer c.loop-count.invariant.behind c.in_ok-longer.ensures ∙ (sym c.is_own.ensures ∙ c.if-is_own.false));
    }

pub returns-then-is_own-2 : goal.returns-then-is_own-2
returns-then-is_own-2 c =
    let names = c.args.self.now in
    let name = c.args.name.now in
    let front = c.args.front.now in
    let whole = own_behind names name front c.requires (length name) name (no_longer names name front c.requires) (sym (take_all (length name) name (omega arith))) in
    ap Some c.in_ok-copy.ensures
    ∙ sym (finds_last (λ (above : Labels). is_outside names above && is_own names above) name c.loop-count.count c.loop-count.invariant.passed
    (omega (arith, c.loop-count-test.false, c.loop-count.auto.count-end, c.len-count-end.ensures.value)) (whole ∙ (sym c.is_own-2.ensures ∙ c.if-is_own-2.true)))

pub returns : goal.returns
returns c =
    let names = c.args.self.now in
    let name = c.args.name.now in
    let front = c.args.front.now in
    let whole = own_behind names name front c.requires (length name) name (no_longer names name front c.requires) (sym (take_all (length name) name (omega arith))) in
    finds_no_last (λ (above : Labels). is_outside names above && is_own names above) name c.loop-count.count c.loop-count.invariant.passed
    (omega (arith, c.loop-count-test.false, c.loop-count.auto.count-end, c.len-count-end.ensures.value)) (whole ∙ (sym c.is_own-2.ensures ∙ c.if-is_own-2.false))
