-- Below a name with a free label there is a first one: whether a label is taken is read off the name's live set.
use Rattle.std.proofs.Common.{◌≡◌, ◌∙◌, ℕ, ◌<◌, Bool, true, List, [], ◌∷◌, ◌++◌, map, filter, flat_map, length, Contains, sym, refl, ap, subst}
use Rattle.dns_data.specs.Label.{IsLabel}
use Rattle.dns_data.specs.Name.{Labels, name_eq}
use Rattle.dns_data.proofs.Membership.{map_has, from_map, filter_has, from_filter, flat_map_has, from_flat_map}
use Rattle.dns_data.proofs.Names.{name_eq_decides}
use Rattle.net_model.specs.Class.{IsFirstUnnamed}
use Rattle.net_model.specs.Reading.{Ground, IsNamed, ReadsOnTo}
use Rattle.net_model.proofs.FirstLabel.{first_unnamed}
use Rattle.net_model.proofs.Naming.{named_among, among_named}
use Rattle.label_graph.specs.LiveSet.{IsClosed, IsLiveSet, name_at}
use Rattle.label_graph.proofs.LiveNames.{named_next, next_is_named}
use Rattle.name_table.proofs.Tables.{place_among, among_place}
use Rattle.query_classes.proofs.FreeLabels.{last_of, last_of_below}

module _ (ground : Ground) (closed : IsClosed ground) (above : Labels) (live : List ℕ) (of : IsLiveSet ground above live) where
  -- the name is one label below another
  abbrev pub is_below : Labels → Labels → Bool
  is_below base name = name_eq name (base ++ last_of name ∷ [])

  -- the names one label below the name whose last label a base name one label below a live one has
  abbrev pub taken_at : ℕ → List Labels
  taken_at place = map (λ (name : Labels). above ++ last_of name ∷ []) (filter (is_below (name_at ground.names place)) ground.names)

  -- the names one label below the name that are taken by a live base name
  abbrev pub taken : List Labels
  taken = flat_map taken_at live

  -- a name one label below that a live base name takes is named
  pub taken_named : (label : List ℕ) → Contains taken (above ++ label ∷ []) → IsNamed ground (above ++ label ∷ [])
  taken_named label has =
      let (place, among, at) = from_flat_map taken_at live (above ++ label ∷ []) has in
      let (name, passes, same) =
      from_map (λ (name : Labels). above ++ last_of name ∷ []) (filter (is_below (name_at ground.names place)) ground.names) (above ++ label ∷ []) at in
      let found = from_filter (is_below (name_at ground.names place)) ground.names name passes in
      let is : name ≡ name_at ground.names place ++ last_of name ∷ [] = (name_eq_decides name (name_at ground.names place ++ last_of name ∷ [])).0 found.1 in
      let own : last_of name ≡ label = sym (last_of_below above (last_of name)) ∙ ap last_of same ∙ last_of_below above label in
      let below : place < length ground.names = of_place place among in
      subst (λ (l : List ℕ). IsNamed ground (above ++ l ∷ [])) own
      (next_is_named ground closed above (name_at ground.names place) (last_of name)
      (among_place ground.names place below, (of.live place below).0 among) (subst (Contains ground.names) is found.0))
    where
      of_place : (place : ℕ) → Contains live place → place < length ground.names
      of_place place (k, within, is) = subst (λ (p : ℕ). p < length ground.names) is (of.within k place within)

  -- a name one label below that is named is taken by a live base name
  pub named_taken : (label : List ℕ) → IsNamed ground (above ++ label ∷ []) → Contains taken (above ++ label ∷ [])
  named_taken label named =
      let (base, (there, reads), has) = named_next ground closed above label named in
      let (place, below, is) = place_among ground.names base there in
      let among : Contains live place = (of.live place below).1 (subst (ReadsOnTo ground.redirections above) (sym is) reads) in
      let name : Labels = base ++ label ∷ [] in
      let own : last_of name ≡ label = last_of_below base label in
      let passes : is_below (name_at ground.names place) name ≡ true =
      (name_eq_decides name (name_at ground.names place ++ last_of name ∷ [])).1
      (ap (λ (l : List ℕ). base ++ l ∷ []) (sym own) ∙ ap (λ (b : Labels). b ++ last_of name ∷ []) (sym is)) in
      flat_map_has taken_at live place (above ++ label ∷ []) among
      (subst (λ (l : List ℕ). Contains (taken_at place) (above ++ l ∷ [])) own
      (map_has (λ (n : Labels). above ++ last_of n ∷ []) (filter (is_below (name_at ground.names place)) ground.names) name
      (filter_has (is_below (name_at ground.names place)) ground.names name has passes)))

  -- each name that is taken is the name with one label below it
  pub taken_one : (name : Labels) → Contains taken name → (label : List ℕ) × (name ≡ above ++ label ∷ [])
  taken_one name has =
      let (place, among, at) = from_flat_map taken_at live name has in
      let (other, passes, same) = from_map (λ (n : Labels). above ++ last_of n ∷ []) (filter (is_below (name_at ground.names place)) ground.names) name at in
      (last_of other, sym same)

  -- a name with a free label has a first one
  pub first_free : (label : List ℕ) → IsLabel label → (IsNamed ground (above ++ label ∷ []) → ⊥) → (first : List ℕ) × IsFirstUnnamed ground above first
  first_free label is unnamed =
      let names : Ground = record { names = taken; redirections = [] } in
      let (first, of_names, short) = first_unnamed names refl above label is (λ has. unnamed (taken_named label has)) in (
        first,
        record {
          is_label = of_names.is_label;
          unnamed = λ named. of_names.unnamed (among_named names (above ++ first ∷ []) (named_taken first named));
          first = λ other other_is less. taken_named other (named_among names refl (above ++ other ∷ []) (of_names.first other other_is less));
        },
      )
