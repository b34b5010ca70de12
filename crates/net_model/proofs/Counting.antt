-- More than so many different items: what a list of all of them refuses, and what a map carries over.
use Rattle.std.proofs.Common.{◌≡◌, ◌≢◌, ℕ, ◌<◌, ◌≤◌, List, map, length, get_or, All, Contains, arith}
use Rattle.std.proofs.lemmas.List.{length-map}
use Rattle.std.proofs.lemmas.List.Elements.{All-from_recursion, All-contains, All-get_or}
use Rattle.dns_data.proofs.DifferentItems.{fits_among}
use Rattle.dns_data.proofs.Membership.{all_images, pairs_of_images}
use Rattle.net_model.specs.Tree.{HasMoreThan}

-- if a list of at most so many items has all items with a property, no more than so many have it
pub no_more_than : {X : Type 0} (P : X → Type 0) (most : ℕ) (all : List X) → length all ≤ most
    → ((x : X) → P x → Contains all x) → HasMoreThan P most → ⊥
no_more_than P most all few has more =
    let fits : length more.items ≤ length all =
    fits_among more.items all more.differ
    (λ x among. has x (All-contains P more.items x (All-from_recursion P more.items more.each) among)) in
    let many : most < length more.items = more.more in
    omega arith

-- if more than so many items have a property, so many of their images have another, by a map that keeps them apart
pub more_images : {X Y : Type 0} (P : X → Type 0) (Q : Y → Type 0) (most : ℕ) (f : X → Y) → ((x : X) → P x → Q (f x))
    → ((a b : X) → P a → P b → f a ≡ f b → a ≡ b) → HasMoreThan P most → HasMoreThan Q most
more_images P Q most f kept apart more =
    let each : All P more.items = All-from_recursion P more.items more.each in
    let many : most < length more.items = more.more in
    record {
      items = map f more.items;
      more = omega (arith, length-map more.items f);
      differ =
          pairs_of_images f (λ a b. a ≢ b) more.items
          (λ i j d before within same. more.differ i j d before within
          (apart (get_or more.items i d) (get_or more.items j d) (All-get_or P more.items i d (omega arith) each)
          (All-get_or P more.items j d within each) same));
      each = all_images f Q more.items (λ x among. kept x (All-contains P more.items x each among));
    }
