-- Ends whose places are listed for their servers.
use Rattle.std.proofs.Common.{◌≡◌, ℕ, zero, suc, Bool, true, false, cond, List, [], ◌∷◌, ◌++◌, length, is_eq, Contains, Option, Some, None, Result, Ok, Err, refl, sym, ap, ◌∙◌, subst, inl, inr, true≢false}
use Rattle.std.specs.Prelude.{◌⊎◌, OnErr, OnOk, slice_get, unwrap_or}
use Rattle.std.specs.BTreeMap as map
use Rattle.std.specs.Cmp.Lexicographic.{lists_ties, texts_ties}
use Rattle.std.specs.List.{list_any}
use Rattle.std.specs.Option.{option_map_or}
use Rattle.std.proofs.lemmas.List.Elements.{Contains-append_left, Contains-get_or}
use Rattle.std.proofs.lemmas.Option.{get_or_from_slice_get, slice_get-get_or, slice_get_within}
use Rattle.dns_data.specs.Label.{label_cmp}
use Rattle.dns_data.specs.Name.{Labels, name_cmp, name_eq}
use Rattle.dns_data.proofs.Names.{name_eq_decides}
use Rattle.dns_data.proofs.Searches.{any_has, from_any, same_truth}
use Rattle.dns_data.specs.Listed.{places_of}
use Rattle.site_checks.specs.EndPlaces.{ListsPlaces, is_end_at}
use Rattle.site_checks.specs.Ends.{end_eq}
use Rattle.site_checks.specs.declared.views.TypedEnd.{TypedEnd}
use Rattle.site_checks.proofs.EqualEnds.{end_decides}

-- for each server, the places of its ends in their list
abbrev pub Places : Type 0
Places = map.BTreeMap Labels (List ℕ)

-- ---- ends that are looked for

module _ (ends : List TypedEnd) (places : Places) (listed : ListsPlaces places ends) (end : TypedEnd) where
  there : (place : ℕ) (found : Option TypedEnd) → slice_get ends place ≡ found → option_map_or (end_eq end) found false ≡ true → list_any (end_eq end) ends ≡ true
  there place None e is = absurd (true≢false (sym is))
  there place (Some other) e is =
      any_has (end_eq end) ends other
      (subst (Contains ends) (get_or_from_slice_get ends place other other e) (Contains-get_or ends place other (slice_get_within ends place other e))) is

  back : list_any (end_eq end) ends ≡ true → list_any (is_end_at ends end) (places_of places end.server) ≡ true
  back some =
      let (other, (place, below, is), equal) = from_any (end_eq end) ends some in
      let at : slice_get ends place ≡ Some other = slice_get-get_or ends place other below ∙ ap (λ (e : TypedEnd). Some e) is in
      any_has (is_end_at ends end) (places_of places end.server) place
      (subst (λ (e : TypedEnd). Contains (places_of places e.server) place) (sym ((end_decides end other).0 equal)) (listed place other at))
      (ap (λ (found : Option TypedEnd). option_map_or (end_eq end) found false) at ∙ equal)

  -- an end is at one of the places that are listed for its server exactly where it is there
  pub found_by_server : list_any (is_end_at ends end) (places_of places end.server) ≡ list_any (end_eq end) ends
  found_by_server =
      same_truth (list_any (is_end_at ends end) (places_of places end.server)) (list_any (end_eq end) ends)
      (λ e. (let (place, among, is) = from_any (is_end_at ends end) (places_of places end.server) e in there place (slice_get ends place) refl is))
      back

-- ---- ends that are listed

-- at first there is no end whose place has to be listed
pub none_listed : (places : Places) → ListsPlaces places []
none_listed places place end at = absurd cc

-- places of ends stay listed when more places are listed
pub still_listed : (ends : List TypedEnd) (old new : Places) → ListsPlaces old ends
    → ((name : Labels) (other : ℕ) → Contains (places_of old name) other → Contains (places_of new name) other) → ListsPlaces new ends
still_listed ends old new listed stays place end at = stays end.server place (listed place end at)

at_push : (ends : List TypedEnd) (end other : TypedEnd) (place : ℕ) → slice_get (ends ++ end ∷ []) place ≡ Some other
    → (slice_get ends place ≡ Some other) ⊎ ((place ≡ length ends) × (end ≡ other))
at_push [] end other zero e = inr (refl, cc)
at_push [] end other (suc place) e = absurd cc
at_push (first ∷ ends) end other zero e = inl e
at_push (first ∷ ends) end other (suc place) e =
    elim (at_push ends end other place e) [
      | inl is ↦ inl is
      | inr (last, same) ↦ inr (ap suc last, same)
    ]

-- places of ends stay listed with an end more, whose place is listed
pub listed_more : (places : Places) (ends : List TypedEnd) (end : TypedEnd) → ListsPlaces places ends → Contains (places_of places end.server) (length ends) → ListsPlaces places (ends ++ end ∷ [])
listed_more places ends end listed has place other at =
    elim (at_push ends end other place at) [
      | inl is ↦ listed place other is
      | inr (last, same) ↦
          subst (λ (e : TypedEnd). Contains (places_of places e.server) place) same (subst (Contains (places_of places end.server)) (sym last) has)
    ]

-- ---- places for a server

-- places that were listed stay when one is put behind them, or when there is no memory for it
pub kept_behind : {T E : Type 0} (result : Result T E) (old new : List ℕ) (item : ℕ) → OnOk result (new ≡ old ++ item ∷ []) → OnErr result (new ≡ old)
    → (place : ℕ) → Contains old place → Contains new place
kept_behind (Ok done) old new item ok err place has = subst (λ (places : List ℕ). Contains places place) (sym ok) (Contains-append_left old (item ∷ []) place has)
kept_behind (Err fault) old new item ok err place has = subst (λ (places : List ℕ). Contains places place) (sym err) has

-- a map in which a server has these places
module _ (name : Labels) (listed : List ℕ) (old new : Places) (is : (other : Labels) → map.get name_cmp new other ≡ cond (is_eq (name_cmp name other)) (Some listed) (map.get name_cmp old other)) where
  placed : (other : Labels) (b : Bool) → name_eq name other ≡ b → places_of new other ≡ cond b listed (places_of old other)
  placed other b e =
      ap (λ (found : Option (List ℕ)). unwrap_or found [])
      (is other ∙ ap (λ (at : Bool). cond at (Some listed) (map.get name_cmp old other)) (sym (lists_ties label_cmp texts_ties name other) ∙ e))
      ∙ by b
    where
      by : (b : Bool) → unwrap_or (cond b (Some listed) (map.get name_cmp old other)) [] ≡ cond b listed (places_of old other)
      by true = refl
      by false = refl

  -- what was listed stays when a server's places are replaced by more places
  pub listed_stays : ((place : ℕ) → Contains (places_of old name) place → Contains listed place)
      → (other : Labels) (place : ℕ) → Contains (places_of old other) place → Contains (places_of new other) place
  listed_stays keeps other place has = by (name_eq name other) refl where
    by : (b : Bool) → name_eq name other ≡ b → Contains (places_of new other) place
    by true e =
        subst (λ (places : List ℕ). Contains places place) (sym (placed other true e))
        (keeps place (subst (λ (n : Labels). Contains (places_of old n) place) (sym ((name_eq_decides name other).0 e)) has))
    by false e = subst (λ (places : List ℕ). Contains places place) (sym (placed other false e)) has
