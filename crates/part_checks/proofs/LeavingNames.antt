-- Where names leave the held ones.
use Rattle.std.proofs.Common.{◌≡◌, ◌∙◌, ℕ, zero, suc, ◌+◌, ◌-◌, ◌≤◌, ◌<◌, ◌≢◌, true, false, List, [], ◌∷◌, ◌++◌, length, take, drop, find, Contains, Some, None, refl, sym, ap, subst, arith, append_assoc, true≢false}
use Rattle.std.specs.Prelude.{not, ◌&&◌}
use Rattle.std.proofs.lemmas.List.{length-append, length-drop, take-append-drop, take-append-le}
use Rattle.std.proofs.Math.Seq.{take-append-add}
use Rattle.dns_data.specs.Name.{Labels, is_among}
use Rattle.net_model.specs.Prefix.{prefixes}
use Rattle.net_model.proofs.Naming.{from_listed, is_listed}
use Rattle.part_laws.proofs.WithPrefixes.{prefixes_there, root_there}
use Rattle.part_names.specs.PartNames.{is_own}
use Rattle.part_names.specs.declared.names.PartNames.{PartNames}
use Rattle.part_checks.specs.Outside.{first_outside, is_outside, own_outside, parent, IsBelowHeld, IsPassed}
use Rattle.part_checks.specs.Parts.{held_by}
use Rattle.part_checks.proofs.Meets.{first_leaves, leaves_first, not_among}
use Rattle.part_checks.proofs.Prefixes.{held_fails, passes_next}

module _ (names : PartNames) (name front : Labels) (found : first_outside names name ≡ Some front) where
  -- where the name leaves the held names it goes on with these labels
  goes_on : (below : Labels) × (front ++ below ≡ name)
  goes_on =
      let at = first_leaves names name front found in
      (at.leaves.below, ap (λ (n : Labels). n ++ at.leaves.below) at.front_is ∙ append_assoc at.above (at.label ∷ []) at.leaves.below ∙ sym at.leaves.is)

  -- the name where it leaves them is a prefix
  pub no_longer : length front ≤ length name
  no_longer =
      let (below, is) = goes_on in
      omega (arith, length-append front below, ap (λ (n : Labels). length n) is)

  -- shorter prefixes are held
  held_before : (k : ℕ) → k < length front → is_outside names (take k name) ≡ false
  held_before k low =
      let at = first_leaves names name front found in
      let short : k ≤ length at.above = omega (arith, low, ap (λ (n : Labels). length n) at.front_is, length-append at.above (at.label ∷ [])) in
      let is : take k name ≡ take k at.above = ap (take k) at.leaves.is ∙ take-append-le k at.above (at.label ∷ at.leaves.below) short in
      ap not (is_listed (held_by names) (take k name) (subst (Contains (held_by names)) (sym is)
      (prefixes_there names.held (take k at.above) (drop k at.above) (subst (Contains (held_by names)) (sym (take-append-drop k at.above)) at.leaves.held))))

  -- longer ones aren't
  outside_behind : (k : ℕ) → length front ≤ k → is_outside names (take k name) ≡ true
  outside_behind k high =
      let at = first_leaves names name front found in
      let (below, is) = goes_on in
      let more = k - length front in
      let whole : length front + more ≡ k = omega (arith, high) in
      let longer : take k name ≡ front ++ take more below = sym (ap (λ (n : ℕ). take n name) whole) ∙ (sym (ap (take (length front + more)) is) ∙ take-append-add front below more) in
      ap not (not_among (held_by names) (take k name) (λ has. at.leaves.not_held (subst (Contains (held_by names)) at.front_is
      (prefixes_there names.held front (take more below) (subst (Contains (held_by names)) longer has)))))

  -- so behind shorter ones, which are held, the search for one that is own and isn't held goes on
  pub skips_held : (k : ℕ) → k ≤ length front
      → find (λ (above : Labels). is_outside names above && is_own names above) (prefixes name) ≡ find (λ (above : Labels). is_outside names above && is_own names above) (drop k (prefixes name))
  skips_held zero low = refl
  skips_held (suc k) low =
      passes_next (λ (above : Labels). is_outside names above && is_own names above) name k (take k name) (skips_held k (omega (arith, low))) (omega (arith, low, no_longer)) refl
      (ap (λ b. b && is_own names (take k name)) (held_before k (omega (arith, low))))
      ∙ (let next : k + 1 ≡ suc k = omega arith in ap (λ (n : ℕ). find (λ (above : Labels). is_outside names above && is_own names above) (drop n (prefixes name))) next)

  -- and a longer one is found if it is own
  pub own_behind : (k : ℕ) (longer : Labels) → length front ≤ k → longer ≡ take k name → (is_outside names longer && is_own names longer) ≡ is_own names longer
  own_behind k longer high is = ap (λ b. b && is_own names longer) (ap (is_outside names) is ∙ outside_behind k high)

module _ (names : PartNames) where
  -- a held name is passed
  pub held_passed : (outside : List Labels) (name : Labels) → is_among (held_by names) name ≡ true → IsPassed names outside name
  held_passed outside name held =
      let none : None ≡ first_outside names name = held_fails names.held (is_outside names) name (λ above there. ap not there) held in
      let none_own : None ≡ own_outside names name =
      held_fails names.held (λ (above : Labels). is_outside names above && is_own names above) name (λ above there. ap (λ b. not b && is_own names above) there) held in
      record {
        away = λ front found. (let clash : None ≡ Some front = none ∙ found in absurd cc);
        own = λ front found. (let clash : None ≡ Some front = none_own ∙ found in cc);
        there = λ front found. (let clash : None ≡ Some front = none ∙ found in absurd cc);
      }

  -- a name that isn't held, right below one that is, leaves the held names at itself
  pub leaves_beside : (other name : Labels) → IsBelowHeld names other → parent other ≡ parent name → is_among (held_by names) name ≡ false
      → first_outside names name ≡ Some name
  leaves_beside other name below same out = by (drop (length name - 1) name) (take-append-drop (length name - 1) name) (length-drop (length name - 1) name) where
    held : Contains (held_by names) (parent name)
    held = from_listed (held_by names) (parent name) (subst (λ (n : Labels). is_among (held_by names) n ≡ true) same below)

    not_root : name ≢ []
    not_root is = true≢false (sym (is_listed (held_by names) [] (root_there names.held)) ∙ (ap (is_among (held_by names)) (sym is) ∙ out))

    at_least : (n : Labels) → n ≢ [] → 1 ≤ length n
    at_least [] differ = absurd (differ refl)
    at_least (label ∷ n) differ = omega arith

    by : (last : Labels) → parent name ++ last ≡ name → length last ≡ length name - (length name - 1) → first_outside names name ≡ Some name
    by [] is size = absurd (omega (arith, size, at_least name not_root))
    by (label ∷ []) is size =
        leaves_first names name (parent name) label (record {
          below = [];
          is = sym is;
          held = held;
          not_held = λ has. true≢false (sym (is_listed (held_by names) (parent name ++ label ∷ []) has) ∙ (ap (is_among (held_by names)) is ∙ out));
        })
        ∙ ap Some is
    by (label ∷ next ∷ more) is size = absurd (omega (arith, size, at_least name not_root))
