use Rattle.std.proofs.Common.{◌≡◌, ◌+◌, true, false, not, ◌&&◌, ◌||◌, ◌⊎◌, List, Bool, ◌∷◌, [], ◌++◌, get_or, take, inl, inr, refl, sym, ap, ◌∙◌, subst}
use Rattle.std.specs.List.{AllByRecursion, list_any}
use Rattle.std.proofs.lemmas.Bool.{eq-eqb, and_parts, and_left, and_right}
use Rattle.std.proofs.lemmas.List.{take_more}
use Rattle.dns_data.specs.RrType.{types, type_eq, number_of}
use Rattle.dns_data.specs.TypeSet.{has_bit}
use Rattle.dns_data.specs.declared.rr_type.RrType.{RrType}
use Rattle.dns_data.specs.declared.rr_type.RrType.TheVariants.{A}
use Rattle.dns_data.proofs.Names.{all_push, all_so}
use Rattle.net_model.specs.Lookup.{at_name}
use Rattle.zone_tree.specs.Tree.{name_of}
use Rattle.zone_tree.proofs.Types.{one_type}
use Rattle.zone_lookup.specs.Alike.{AreAlike, AreSplit}
use Rattle.zone_lookup.proofs.TypeSets.{not_left, one_more, passed_or_this, same_split, split_more}
use Rattle.zone_lookup.proofs.alike.split_types.Goals as goal
use Rattle.zone_lookup.proofs.alike.split_types.Goals.{then-has+in_ok-push, else-has}

pub loop-t-init : goal.loop-t-init
loop-t-init c =
    let zone = c.args.tree.now.zone in
    let owner = name_of c.args.tree.now c.args.owner in
    let together = c.types_alike-together.result in
    record {
      within = λ t has. (and_parts (has_bit c.args.types t) (not (has_bit together t)) (sym (c.minus-left.ensures t) ∙ has)).0;
      passed = λ t none. absurd (cc);
      split = same_split (has_bit together) c.in_ok-sets.sets c.in_ok-sets.ensures.split (λ t. has_bit c.args.types t && not (has_bit c.minus-left.result t))
          (λ t. not_left (has_bit c.args.types t) (has_bit together t) (has_bit c.minus-left.result t) (c.types_alike-together.ensures.within t) (c.minus-left.ensures t));
      alike = all_so (λ set. set ≡ together) (AreAlike zone owner) c.in_ok-sets.sets
          (λ set is. subst (AreAlike zone owner) (sym is) c.types_alike-together.ensures.alike) c.in_ok-sets.ensures.only;
    }

pub loop-t-preserved : goal.loop-t-preserved
loop-t-preserved c =
    let zone = c.args.tree.now.zone in
    let owner = name_of c.args.tree.now c.args.owner in
    let left : List Bool = c.loop-t.left in
    let index = c.loop-t.t-index in
    let t : RrType = get_or types index A in
    let inv = c.loop-t.invariant in
    let rtypes : take (index + 1) types ≡ take index types ++ t ∷ [] = take_more types index A c.loop-t-test.true in
    let passed : (s : RrType) → list_any (λ other. type_eq other s) (take (index + 1) types) ≡ true
    → (list_any (λ other. type_eq other s) (take index types) ≡ true) ⊎ (type_eq t s ≡ true) =
    λ s has. passed_or_this (take index types) (take (index + 1) types) t s rtypes has in
    elim c.if-has.branch [
      | then-has+in_ok-push w ↦ (
          let here : has_bit left t ≡ true = sym c.has.ensures ∙ w.if-has.true in
          let asked : (s : RrType) → type_eq t s ≡ true → has_bit c.args.types s ≡ true =
          λ s same. inv.within s (ap (has_bit left) (sym (one_type t s same)) ∙ here) in
          let this : (s : RrType) → has_bit w.one-one.result s ≡ type_eq t s = λ s. w.one-one.ensures s in
          let after : (s : RrType) → has_bit c.if-has.left s ≡ (has_bit left s && not (type_eq t s)) =
          λ s. ap (λ (set : List Bool). has_bit set s) w.left-is ∙ w.minus-left-then-has.ensures s ∙ ap (λ (b : Bool). has_bit left s && not b) (this s) in
          record {
            within = λ s has. inv.within s (and_parts (has_bit left s) (not (type_eq t s)) (sym (after s) ∙ has)).0;
            passed = λ s has. elim (passed s has) [
              | inl before ↦ after s ∙ and_left (has_bit left s) (not (type_eq t s)) (inv.passed s before)
              | inr now ↦ after s ∙ and_right (has_bit left s) (not (type_eq t s)) (ap not now)
            ];
            split = subst (AreSplit (λ s. has_bit c.args.types s && not (has_bit c.if-has.left s))) (sym (w.sets-is ∙ w.in_ok-push.ensures.ok))
                (split_more (λ s. has_bit c.args.types s && not (has_bit left s)) c.loop-t.sets inv.split w.one-one.result
                (λ s has. and_right (has_bit c.args.types s) (not (has_bit left s)) (ap not (ap (has_bit left) (sym (one_type t s (sym (this s) ∙ has))) ∙ here)))
                (t, this t ∙ itself t)
                (λ s. has_bit c.args.types s && not (has_bit c.if-has.left s))
                (λ s. one_more (has_bit c.args.types s) (has_bit left s) (type_eq t s) (has_bit c.if-has.left s) (asked s) (after s)
                ∙ ap (λ (b : Bool). (has_bit c.args.types s && not (has_bit left s)) || b) (sym (this s))));
            alike = subst (AllByRecursion (AreAlike zone owner)) (sym (w.sets-is ∙ w.in_ok-push.ensures.ok))
                (all_push (AreAlike zone owner) c.loop-t.sets w.one-one.result inv.alike
                (λ a b has_a has_b. ap (at_name zone owner) (sym (one_type t a (sym (this a) ∙ has_a)) ∙ one_type t b (sym (this b) ∙ has_b))));
          })
      | else-has w ↦ (
          let gone : has_bit left t ≡ false = sym c.has.ensures ∙ w.if-has.false in
          let after : (s : RrType) → has_bit c.if-has.left s ≡ has_bit left s = λ s. ap (λ (set : List Bool). has_bit set s) w.left-is in
          record {
            within = λ s has. inv.within s (sym (after s) ∙ has);
            passed = λ s has. elim (passed s has) [
              | inl before ↦ after s ∙ inv.passed s before
              | inr now ↦ after s ∙ ap (has_bit left) (sym (one_type t s now)) ∙ gone
            ];
            split = subst (AreSplit (λ s. has_bit c.args.types s && not (has_bit c.if-has.left s))) (sym w.sets-is)
                (same_split (λ s. has_bit c.args.types s && not (has_bit left s)) c.loop-t.sets inv.split (λ s. has_bit c.args.types s && not (has_bit c.if-has.left s))
                (λ s. ap (λ (b : Bool). has_bit c.args.types s && not b) (after s)));
            alike = subst (AllByRecursion (AreAlike zone owner)) (sym w.sets-is) inv.alike;
          })
    ]
  where
    itself : (rtype : RrType) → type_eq rtype rtype ≡ true
    itself rtype = eq-eqb (number_of rtype) (number_of rtype) refl
