-- Sets of origins, in the order of names.
use Rattle.std.proofs.Common.{◌≡◌, ℕ, ◌+◌, ◌<◌, List, [], ◌∷◌, ◌++◌, length, map, take, get_or, Bor, Ordering, Less, Equal, Greater, refl, sym, ◌∙◌, subst, inl, inr}
use Rattle.std.specs.Prelude.{◌⊎◌, Contains}
use Rattle.std.specs.BTreeSet.{insert_key}
use Rattle.std.specs.Ordering.{match_ordering}
use Rattle.std.proofs.lemmas.List.{take_more}
use Rattle.std.proofs.lemmas.List.Elements.{Contains-append_cases}
use Rattle.zone_lookup.proofs.FirstsByName.{borrowed_cmp}
use Rattle.dns_data.specs.Name.{Labels, name_cmp}
use Rattle.dns_data.proofs.Membership.{first_or_later, has_first, has_later, none_in_nil}
use Rattle.dns_data.proofs.Names.{same_names}

-- the names behind references
abbrev pub names_of : List (Bor Labels) → List Labels
names_of names = map (λ name. name.now) names

-- a name that is put into a set is there
pub put_there : (name : Bor Labels) (names : List (Bor Labels)) → Contains (names_of (insert_key borrowed_cmp names name)) name.now
put_there name [] = has_first name.now []
put_there name (first ∷ names) = by (name_cmp name.now first.now) refl (put_there name names) where
  by : (o : Ordering) → name_cmp name.now first.now ≡ o → Contains (names_of (insert_key borrowed_cmp names name)) name.now
      → Contains (names_of (match_ordering o (name ∷ first ∷ names) (first ∷ names) (first ∷ insert_key borrowed_cmp names name))) name.now
  by Less is rest = has_first name.now (first.now ∷ names_of names)
  by Equal is rest = subst (λ (n : Labels). Contains (n ∷ names_of names) name.now) (same_names name.now first.now is) (has_first name.now (names_of names))
  by Greater is rest = has_later first.now (names_of (insert_key borrowed_cmp names name)) name.now rest

-- the other names of a set stay when a name is put into it
pub put_kept : (name : Bor Labels) (names : List (Bor Labels)) (other : Labels) → Contains (names_of names) other → Contains (names_of (insert_key borrowed_cmp names name)) other
put_kept name [] other has = has_later name.now [] other has
put_kept name (first ∷ names) other has = by (name_cmp name.now first.now) (put_kept name names other) where
  by : (o : Ordering) → (Contains (names_of names) other → Contains (names_of (insert_key borrowed_cmp names name)) other)
      → Contains (names_of (match_ordering o (name ∷ first ∷ names) (first ∷ names) (first ∷ insert_key borrowed_cmp names name))) other
  by Less rest = has_later name.now (first.now ∷ names_of names) other has
  by Equal rest = has
  by Greater rest = put (first_or_later first.now (names_of names) other has) where
    put : (first.now ≡ other) ⊎ Contains (names_of names) other → Contains (first.now ∷ names_of (insert_key borrowed_cmp names name)) other
    put (inl is) = subst (Contains (first.now ∷ names_of (insert_key borrowed_cmp names name))) is (has_first first.now (names_of (insert_key borrowed_cmp names name)))
    put (inr later) = has_later first.now (names_of (insert_key borrowed_cmp names name)) other (rest later)

-- what holds of each item so far and of the next holds of each item up to it
pub each_more : {X : Type 0} (P : X → Type 0) (items : List X) (i : ℕ) (item : X) → i < length items → item ≡ get_or items i item
    → ((one : X) → Contains (take i items) one → P one) → P item → (one : X) → Contains (take (i + 1) items) one → P one
each_more {X = X} P items i item within is each here one has =
    by (Contains-append_cases (take i items) (item ∷ []) one
    (subst (λ (all : List X). Contains all one) (take_more items i item within ∙ (λ j. take i items ++ sym is j ∷ [])) has))
  where
    last : (item ≡ one) ⊎ Contains [] one → P one
    last (inl same) = subst P same here
    last (inr none) = absurd (none_in_nil one none)

    by : Contains (take i items) one ⊎ Contains (item ∷ []) one → P one
    by (inl before) = each one before
    by (inr end) = last (first_or_later item [] one end)
