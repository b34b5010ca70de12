-- Names that are passed one after another.
use Rattle.std.proofs.Common.{◌≡◌, ◌∙◌, ℕ, ◌+◌, ◌-◌, ◌<◌, ◌≤◌, Bool, List, ◌∷◌, map, length, take, get_or, All, Contains, sym, ap, subst, true≢false}
use Rattle.std.specs.Prelude.{IsTrue}
use Rattle.std.specs.Ordering.{is_eq}
use Rattle.std.specs.declared.cmp.Ordering.{Ordering}
use Rattle.std.specs.declared.cmp.Ordering.TheVariants.{Equal, Less, Greater}
use Rattle.std.proofs.lemmas.List.{take_all}
use Rattle.std.proofs.lemmas.List.Elements.{All-contains, All-more}
use Rattle.dns_data.proofs.Membership.{all_from_contains, has_later, map_has}
use Rattle.dns_data.specs.Name.{Labels, name_cmp}
use Rattle.dns_data.proofs.Names.{same_names}
use Rattle.part_names.specs.declared.names.PartNames.{PartNames}
use Rattle.part_checks.specs.Outside.{parent, IsPassed}

-- what holds of the items so far, and of the next, holds of one more
pub all_more : {X : Type 0} (P : X → Type 0) (xs : List X) (k : ℕ) (x : X) → k < length xs → x ≡ get_or xs k x → All P (take k xs) → P x → All P (take (k + 1) xs)
all_more P xs k x low is all holds = All-more P xs k x low all (subst P is holds)

-- what holds of the items so far holds of all, where as many items are passed as there are
pub all_passed : {X : Type 0} (P : X → Type 0) (xs : List X) (k : ℕ) → length xs ≤ k → All P (take k xs) → All P xs
all_passed P xs k over all = subst (All P) (take_all k xs over) all

-- what is passed is passed where more names stand outside
pub passed_on : (names : PartNames) (outside more : List Labels) (name : Labels) → ((other : Labels) → Contains outside other → Contains more other)
    → IsPassed names outside name → IsPassed names more name
passed_on names outside more name stays is =
    record {
      away = is.away;
      own = is.own;
      there = λ front found.
          let one = is.there front found in
          record { name = one.name; there = stays one.name one.there; beside = one.beside; no_longer = one.no_longer };
    }

-- names stand beside each other if they are equal but for their last labels
pub beside_told : (one other above beside : Labels) (m n : ℕ) (order : Ordering) (equal : Bool) → above ≡ take m one → m ≡ length one - 1 → beside ≡ take n other → n ≡ length other - 1
    → order ≡ name_cmp above beside → equal ≡ is_eq order → IsTrue equal → parent one ≡ parent other
beside_told one other above beside m n Equal equal first low second high told is truth =
    sym (first ∙ ap (λ (k : ℕ). take k one) low) ∙ (same_names above beside (sym told) ∙ (second ∙ ap (λ (k : ℕ). take k other) high))
beside_told one other above beside m n Less equal first low second high told is truth = absurd (true≢false (sym truth ∙ is))
beside_told one other above beside m n Greater equal first low second high told is truth = absurd (true≢false (sym truth ∙ is))

-- what holds of an item and of the images behind it holds of these
pub all_behind : {X Y : Type 0} (P : Y → Type 0) (f : X → Y) (y : Y) (xs : List X) → All P (y ∷ map f xs) → All (λ x. P (f x)) xs
all_behind P f y xs all =
    all_from_contains (λ x. P (f x)) xs (λ x has. All-contains P (y ∷ map f xs) (f x) all (has_later y (map f xs) (f x) (map_has f xs x has)))
