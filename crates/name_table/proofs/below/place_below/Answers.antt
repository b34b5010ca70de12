use Rattle.std.proofs.Common.{◌≡◌, ◌∙◌, ℕ, ◌<◌, [], ◌∷◌, ◌++◌, length, Err, Greater, sym, subst, arith}
use Rattle.std.specs.List.{AllWithin}
use Rattle.dns_data.specs.Name.{Labels, name_cmp}
use Rattle.dns_data.proofs.Names.{same_names}
use Rattle.name_table.specs.Table.{name_at}
use Rattle.name_table.proofs.NameKeys.{before_below}
use Rattle.name_table.proofs.SearchedNames.{found_at, all_before, all_behind}
use Rattle.name_table.proofs.below.place_below.Goals as goal

pub loop-low-init : goal.loop-low-init
loop-low-init c =
    let names = c.args.names.now in
    let above = name_at names c.args.place in
    record {
      from = omega arith;
      rising = omega (arith, c.requires.within);
      within = omega arith;
      before = all_before names (above ++ c.args.label.now ∷ []) c.args.place c.requires.ordered c.requires.within (before_below above c.args.label.now);
      behind = λ k d low high. absurd (omega (arith, low, high));
    }

pub loop-low-preserved-in-Less : goal.loop-low-preserved-in-Less
loop-low-preserved-in-Less c =
    let names = c.args.names.now in
    let inv = c.loop-low.invariant in
    let middle = c.place_after-middle.result in
    let within : middle < length names = omega (arith, c.place_after-middle.ensures.below, inv.within) in
    record {
      from = omega (arith, inv.from, c.place_after-middle.ensures.from);
      rising = omega (arith, c.place_after-middle.ensures.below);
      within = inv.within;
      before = all_before names (name_at names c.args.place ++ c.args.label.now ∷ []) middle c.requires.ordered within (sym c.order_below.ensures ∙ c.in-Less.is);
      behind = inv.behind;
    }

pub returns-in-Equal-clause-some : goal.returns-in-Equal-clause-some
returns-in-Equal-clause-some c =
    let names = c.args.names.now in
    let middle = c.place_after-middle.result in (
      omega (arith, c.place_after-middle.ensures.below, c.loop-low.invariant.within),
      same_names (name_at names middle) (name_at names c.args.place ++ c.args.label.now ∷ []) (sym c.order_below.ensures ∙ c.in-Equal.is),
    )

pub loop-low-preserved : goal.loop-low-preserved
loop-low-preserved c =
    let names = c.args.names.now in
    let inv = c.loop-low.invariant in
    let middle = c.place_after-middle.result in
    let within : middle < length names = omega (arith, c.place_after-middle.ensures.below, inv.within) in
    record {
      from = inv.from;
      rising = c.place_after-middle.ensures.from;
      within = omega (arith, within);
      before = inv.before;
      behind = all_behind names (name_at names c.args.place ++ c.args.label.now ∷ []) middle c.requires.ordered within (sym c.order_below.ensures ∙ c.in-Greater.is);
    }

pub returns-clause-none : goal.returns-clause-none
returns-clause-none c =
    let names = c.args.names.now in
    let inv = c.loop-low.invariant in
    let child : Labels = name_at names c.args.place ++ c.args.label.now ∷ [] in
    let all : c.loop-low.high ≡ c.loop-low.low = omega (arith, c.loop-low-test.false, inv.rising) in
    found_at names child (Err c.loop-low.low) c.requires.ordered (omega (arith, all, inv.within))
    (λ rises. (inv.before, subst (λ (n : ℕ). AllWithin (λ (other : Labels). name_cmp other child ≡ Greater) names n (length names)) all inv.behind))
