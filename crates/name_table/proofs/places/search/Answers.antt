use Rattle.std.proofs.Common.{◌≡◌, ℕ, ◌+◌, ◌-◌, ◌/◌, ◌<◌, [], length, Greater, sym, ap, ◌∙◌, subst, arith}
use Rattle.std.specs.List.{AllWithin}
use Rattle.std.proofs.lemmas.List.{get_or_default}
use Rattle.dns_data.specs.Name.{Labels, name_cmp}
use Rattle.name_table.proofs.SearchedNames.{all_before, all_behind}
use Rattle.name_table.proofs.places.search.Goals as goal

pub loop-low-init : goal.loop-low-init
loop-low-init c = record {
  rising = omega arith;
  within = omega arith;
  before = λ k d low high. absurd (omega (arith, low, high));
  behind = λ k d low high. absurd (omega (arith, low, high));
}

pub loop-low-preserved-in-Less : goal.loop-low-preserved-in-Less
loop-low-preserved-in-Less c =
    let middle = c.loop-low.low + (c.loop-low.high - c.loop-low.low) / 2 in
    let within : middle < length c.args.names.now = omega (arith, c.loop-low-test.true, c.loop-low.invariant.within) in
    record {
      rising = omega (arith, c.loop-low-test.true);
      within = c.loop-low.invariant.within;
      before = all_before c.args.names.now c.args.labels.now middle c.requires.ordered within (sym c.order_at.ensures ∙ c.in-Less.is);
      behind = c.loop-low.invariant.behind;
    }

pub returns-in-Equal-clause-position : goal.returns-in-Equal-clause-position
returns-in-Equal-clause-position c = λ d.
    let middle = c.loop-low.low + (c.loop-low.high - c.loop-low.low) / 2 in
    let within : middle < length c.args.names.now = omega (arith, c.loop-low-test.true, c.loop-low.invariant.within) in
    ap (λ (x : Labels). name_cmp x c.args.labels.now) (sym (get_or_default c.args.names.now middle [] d within)) ∙ sym c.order_at.ensures ∙ c.in-Equal.is

pub loop-low-preserved : goal.loop-low-preserved
loop-low-preserved c =
    let middle = c.loop-low.low + (c.loop-low.high - c.loop-low.low) / 2 in
    let within : middle < length c.args.names.now = omega (arith, c.loop-low-test.true, c.loop-low.invariant.within) in
    record {
      rising = omega arith;
      within = omega (arith, within);
      before = c.loop-low.invariant.before;
      behind = all_behind c.args.names.now c.args.labels.now middle c.requires.ordered within (sym c.order_at.ensures ∙ c.in-Greater.is);
    }

pub returns-clause-position : goal.returns-clause-position
returns-clause-position c = λ rises.
    let all : c.loop-low.high ≡ c.loop-low.low = omega (arith, c.loop-low-test.false, c.loop-low.invariant.rising) in (
      c.loop-low.invariant.before,
      subst (λ (n : ℕ). AllWithin (λ (other : Labels). name_cmp other c.args.labels.now ≡ Greater) c.args.names.now n (length c.args.names.now)) all
          c.loop-low.invariant.behind,
    )
