use Rattle.std.proofs.Common.{ℕ, List, [], length, get_or, sym, ap, subst, arith}
use Rattle.zone_tree.specs.FirstDecider.{IsFirstDecider}
use Rattle.zone_tree.proofs.NextDeciders.{at_first}
use Rattle.zone_tree.proofs.first_deciders.first_deciders.Goals as goal

pub loop-place-init : goal.loop-place-init
loop-place-init c =
    let zone = c.args.zone.now in
    let names = c.args.names.now in
    record {
      within = omega arith;
      before =
          subst (λ (place : ℕ). IsFirstDecider zone names (get_or names 0 []) place) (sym c.at-before.ensures) (at_first zone names c.requires.existing);
      many = ap (λ (places : List ℕ). length places) c.in_ok-firsts.ensures.items;
      each = λ k d below. absurd (omega arith);
    }
