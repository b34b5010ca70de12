-- The top servers that hold a zone for a name, by the places that are listed for the origins of their zones.
use Rattle.std.proofs.Common.{◌≡◌, ℕ, zero, suc, ◌+◌, ◌<◌, Bool, true, false, cond, List, [], ◌∷◌, ◌++◌, is_eq, map, reverse, length, take, drop, Contains, get_or, AllPairs, filter, Option, Some, None, is_some, option_and_then, option_map, Less, Equal, Greater, Ordering, true≢false, refl, sym, ap, ◌∙◌, subst, inl, inr, arith, length-append}
use Rattle.std.specs.Prelude.{◌⊎◌, ◌↔◌, slice_get, unwrap_or}
use Rattle.std.specs.BTreeMap as tree
use Rattle.std.specs.BTreeSet.{insert_key}
use Rattle.std.specs.Cmp.Lexicographic.{lists_ties, texts_ties}
use Rattle.std.specs.List.{cons_option, filter_map}
use Rattle.std.specs.List.Sorted.{IsStrictlySortedBy}
use Rattle.std.specs.Map.{lookup}
use Rattle.std.specs.Ordering.{match_ordering, nat_cmp}
use Rattle.std.proofs.lemmas.Bool.{cases_lt}
use Rattle.std.proofs.lemmas.Cmp.{nat_cmp_total}
use Rattle.std.proofs.lemmas.List.{take-append-drop, take_more}
use Rattle.std.proofs.lemmas.Option.{slice_get-map, slice_get_within}
use Rattle.std.proofs.lemmas.List.Elements.{All-from_recursion, filter_map-append, Contains-append_cases, Contains-append_left, Contains-append_right}
use Rattle.std.proofs.lemmas.List.Kept.{AllPairs-cons}
use Rattle.std.proofs.lemmas.List.Sorted.{IsPermutation-reverse, IsPermutation-sym, Contains-permutation}
use Rattle.std.proofs.lemmas.Map.Lookups.{exact_unsigned}
use Rattle.dns_data.specs.Label.{label_cmp}
use Rattle.dns_data.specs.Listed.{places_of}
use Rattle.dns_data.specs.Name.{Labels, name_cmp, name_eq}
use Rattle.dns_data.proofs.Membership.{all_from_contains, first_or_later, from_map, has_first, has_later, map_has, none_in_nil, pairs_of_images}
use Rattle.dns_data.proofs.NameFronts.{front_is_take}
use Rattle.dns_data.proofs.Names.{name_eq_decides}
use Rattle.dns_data.proofs.OrderedLists.{same_rising}
use Rattle.dns_data.proofs.Searches.{find_some, found_there}
use Rattle.net_model.specs.Nearest.{held_zone, nearest, nearest_of, server_named, zone_with_origin}
use Rattle.net_model.specs.Prefix.{longest, prefixes}
use Rattle.net_model.specs.declared.config.Config.{Config}
use Rattle.net_model.specs.declared.config.Server.{Server}
use Rattle.net_model.specs.declared.config.Zone.{Zone}
use Rattle.net_model.proofs.FirstLabel.{nat_cmp_less}
use Rattle.net_model.proofs.Prefixes.{from_prefixes, prefixes_have}
use Rattle.zone_tree.proofs.Prefixes.{begins_short}
use Rattle.zone_lookup.specs.ListedFor.{IsListedFor}
use Rattle.zone_lookup.specs.Tops.{HoldsAt, HoldsThese, IsListedAbove, ListsTops, tops_holding, with_tops}

-- ---- places of items

module _ {X : Type 0} (test : X → Bool) where
  -- the places of the items that pass the test
  abbrev pub passing : List X → List ℕ
  passing [] = []
  passing (x ∷ xs) = cond (test x) (0 ∷ map suc (passing xs)) (map suc (passing xs))

  -- the items behind the first one are read at the places before theirs
  read_behind : (x : X) (xs : List X) (places : List ℕ) → filter_map (slice_get (x ∷ xs)) (map suc places) ≡ filter_map (slice_get xs) places
  read_behind x xs [] = refl
  read_behind x xs (place ∷ places) = ap (cons_option (slice_get xs place)) (read_behind x xs places)

  -- at these places the items are read that pass
  passing_read : (xs : List X) → filter_map (slice_get xs) (passing xs) ≡ filter test xs
  passing_read [] = refl
  passing_read (x ∷ xs) = by (read_behind x xs (passing xs) ∙ passing_read xs) (test x) where
    by : filter_map (slice_get (x ∷ xs)) (map suc (passing xs)) ≡ filter test xs → (b : Bool)
        → filter_map (slice_get (x ∷ xs)) (cond b (0 ∷ map suc (passing xs)) (map suc (passing xs))) ≡ cond b (x ∷ filter test xs) (filter test xs)
    by behind true = ap (λ (rest : List X). x ∷ rest) behind
    by behind false = behind

  -- they rise
  passing_rises : (xs : List X) → AllPairs (λ a b. a < b) (passing xs)
  passing_rises [] = λ i j d before within. absurd (omega arith)
  passing_rises (x ∷ xs) =
      by (pairs_of_images suc (λ a b. a < b) (passing xs) (λ i j d before within. omega (arith, passing_rises xs i j d before within))) (test x)
    where
      first : (later : ℕ) → Contains (map suc (passing xs)) later → 0 < later
      first later has = let from = from_map suc (passing xs) later has in omega (arith, from.2)

      by : AllPairs (λ a b. a < b) (map suc (passing xs)) → (b : Bool) → AllPairs (λ a b. a < b) (cond b (0 ∷ map suc (passing xs)) (map suc (passing xs)))
      by behind true = AllPairs-cons (λ a b. a < b) 0 (map suc (passing xs)) (all_from_contains (λ later. 0 < later) (map suc (passing xs)) first) behind
      by behind false = behind

  -- they are those at which an item stands that passes
  abbrev PassesAt : List X → ℕ → Type 0
  PassesAt xs place = (x : X) × (slice_get xs place ≡ Some x) × (test x ≡ true)

  passing_has : (xs : List X) (place : ℕ) → PassesAt xs place → Contains (passing xs) place
  passing_has [] place at = cc
  passing_has (x ∷ xs) zero (y, there, passes) = by (test x) refl where
    same : x ≡ y
    same = cc

    by : (b : Bool) → test x ≡ b → Contains (cond b (0 ∷ map suc (passing xs)) (map suc (passing xs))) 0
    by true e = has_first 0 (map suc (passing xs))
    by false e = absurd (true≢false (sym passes ∙ ap test (sym same) ∙ e))
  passing_has (x ∷ xs) (suc place) at = by (map_has suc (passing xs) place (passing_has xs place at)) (test x) where
    by : Contains (map suc (passing xs)) (suc place) → (b : Bool) → Contains (cond b (0 ∷ map suc (passing xs)) (map suc (passing xs))) (suc place)
    by behind true = has_later 0 (map suc (passing xs)) (suc place) behind
    by behind false = behind

  from_passing : (xs : List X) (place : ℕ) → Contains (passing xs) place → PassesAt xs place
  from_passing [] place has = absurd (none_in_nil place has)
  from_passing (x ∷ xs) place has = by (from_passing xs) (test x) refl has where
    behind : ((place : ℕ) → Contains (passing xs) place → PassesAt xs place) → Contains (map suc (passing xs)) place → PassesAt (x ∷ xs) place
    behind rest has = let from = from_map suc (passing xs) place has in subst (PassesAt (x ∷ xs)) from.2 (rest from.0 from.1)

    by : ((place : ℕ) → Contains (passing xs) place → PassesAt xs place) → (b : Bool) → test x ≡ b
        → Contains (cond b (0 ∷ map suc (passing xs)) (map suc (passing xs))) place → PassesAt (x ∷ xs) place
    by rest true e has =
        elim (first_or_later 0 (map suc (passing xs)) place has) [
          | inl same ↦ subst (PassesAt (x ∷ xs)) same (x, refl, e)
          | inr later ↦ behind rest later
        ]
    by rest false e has = behind rest has

  -- at places in order that are those of the items that pass, these are read
  read_passing : (xs : List X) (places : List ℕ) → AllPairs (λ a b. nat_cmp a b ≡ Less) places → ((place : ℕ) → Contains places place ↔ PassesAt xs place)
      → filter_map (slice_get xs) places ≡ filter test xs
  read_passing xs places rises are =
      ap (filter_map (slice_get xs))
      (same_rising nat_cmp nat_cmp_total places (passing xs) rises
      (λ i j d before within. nat_cmp_less (get_or (passing xs) i d) (get_or (passing xs) j d) (passing_rises xs i j d before within))
      (λ place has. passing_has xs place ((are place).0 has)) (λ place has. (are place).1 (from_passing xs place has)))
      ∙ passing_read xs

-- the places of a set rise
set_rises : (places : List ℕ) → IsStrictlySortedBy nat_cmp places → AllPairs (λ a b. nat_cmp a b ≡ Less) places
unfolding IsStrictlySortedBy
set_rises [] sorted = λ i j d before within. absurd (omega arith)
set_rises (place ∷ places) sorted =
    AllPairs-cons (λ a b. nat_cmp a b ≡ Less) place places (All-from_recursion (λ y. nat_cmp place y ≡ Less) places sorted.0) (set_rises places sorted.1)

-- a set has the places that it had and the one that is put into it
pub put_place : (place : ℕ) (places : List ℕ) (other : ℕ) → Contains (insert_key nat_cmp places place) other ↔ (Contains places other ⊎ (place ≡ other))
put_place place places other = (from places, to places) where
  from : (places : List ℕ) → Contains (insert_key nat_cmp places place) other → Contains places other ⊎ (place ≡ other)
  from [] has = elim (first_or_later place [] other has) [ inl same ↦ inr same | inr none ↦ inl none ]
  from (first ∷ rest) has = by (nat_cmp place first) has (from rest) where
    by : (o : Ordering) → Contains (match_ordering o (place ∷ first ∷ rest) (first ∷ rest) (first ∷ insert_key nat_cmp rest place)) other
        → (Contains (insert_key nat_cmp rest place) other → Contains rest other ⊎ (place ≡ other)) → Contains (first ∷ rest) other ⊎ (place ≡ other)
    by Less has later = elim (first_or_later place (first ∷ rest) other has) [ inl same ↦ inr same | inr was ↦ inl was ]
    by Equal has later = inl has
    by Greater has later =
        elim (first_or_later first (insert_key nat_cmp rest place) other has) [
          | inl same ↦ inl (subst (Contains (first ∷ rest)) same (has_first first rest))
          | inr behind ↦ elim (later behind) [ inl was ↦ inl (has_later first rest other was) | inr same ↦ inr same ]
        ]

  to : (places : List ℕ) → Contains places other ⊎ (place ≡ other) → Contains (insert_key nat_cmp places place) other
  to [] has = elim has [ inl none ↦ absurd (none_in_nil other none) | inr same ↦ subst (Contains (place ∷ [])) same (has_first place []) ]
  to (first ∷ rest) has = by (nat_cmp place first) refl has (to rest) where
    by : (o : Ordering) → nat_cmp place first ≡ o → Contains (first ∷ rest) other ⊎ (place ≡ other)
        → (Contains rest other ⊎ (place ≡ other) → Contains (insert_key nat_cmp rest place) other)
        → Contains (match_ordering o (place ∷ first ∷ rest) (first ∷ rest) (first ∷ insert_key nat_cmp rest place)) other
    by Less is has later =
        elim has [
          | inl was ↦ has_later place (first ∷ rest) other was
          | inr same ↦ subst (Contains (place ∷ first ∷ rest)) same (has_first place (first ∷ rest))
        ]
    by Equal is has later =
        elim has [
          | inl was ↦ was
          | inr same ↦ subst (Contains (first ∷ rest)) (sym (exact_unsigned place first is) ∙ same) (has_first first rest)
        ]
    by Greater is has later =
        elim has [
          | inl was ↦ elim (first_or_later first rest other was) [
            | inl here ↦ subst (Contains (first ∷ insert_key nat_cmp rest place)) here (has_first first (insert_key nat_cmp rest place))
            | inr behind ↦ has_later first (insert_key nat_cmp rest place) other (later (inl behind))
          ]
          | inr same ↦ has_later first (insert_key nat_cmp rest place) other (later (inr same))
        ]

-- ---- lists of places by names

-- for each name, the places that are listed for it
abbrev pub Places : Type 0
Places = tree.BTreeMap Labels (List ℕ)

-- nothing is listed in an empty map
pub none_listed : (places : Places) → tree.IsEmpty places → (name : Labels) → places_of places name ≡ []
none_listed places empty name = ap (λ (entries : List (Labels × List ℕ)). unwrap_or (lookup (λ (key : Labels). is_eq (name_cmp name key)) entries) []) empty

-- the places of each name in the map after these were put in for a name, or none
pub listed_by : (name other : Labels) (listed : Option (List ℕ)) (old new : Places)
    → tree.get name_cmp new other ≡ cond (is_eq (name_cmp name other)) listed (tree.get name_cmp old other)
    → places_of new other ≡ cond (name_eq name other) (unwrap_or listed []) (places_of old other)
listed_by name other listed old new is =
    ap (λ (found : Option (List ℕ)). unwrap_or found []) is ∙ by (is_eq (name_cmp name other)) (lists_ties label_cmp texts_ties name other)
  where
    by : (b : Bool) → name_eq name other ≡ b → unwrap_or (cond b listed (tree.get name_cmp old other)) [] ≡ cond (name_eq name other) (unwrap_or listed []) (places_of old other)
    by true e = sym (ap (λ (c : Bool). cond c (unwrap_or listed []) (places_of old other)) e)
    by false e = sym (ap (λ (c : Bool). cond c (unwrap_or listed []) (places_of old other)) e)

module _ (place : ℕ) where
  -- a place is listed for one name more once it is put behind those of the name
  pub listed_one : (name : Labels) (old mid new : Places)
      → ((other : Labels) → name_eq name other ≡ false → places_of mid other ≡ places_of old other)
      → ((other : Labels) → places_of new other ≡ cond (name_eq name other) (places_of old name ++ place ∷ []) (places_of mid other))
      → IsListedFor place (name ∷ []) old new
  listed_one name old mid new others is other k = by (name_eq name other) refl where
    by : (b : Bool) → name_eq name other ≡ b → Contains (places_of new other) k ↔ (Contains (places_of old other) k ⊎ ((k ≡ place) × Contains (name ∷ []) other))
    by true e = (to, back) where
      same : name ≡ other
      same = (name_eq_decides name other).0 e

      here : places_of new other ≡ places_of old other ++ place ∷ []
      here =
          is other ∙ ap (λ (b : Bool). cond b (places_of old name ++ place ∷ []) (places_of mid other)) e
          ∙ ap (λ (n : Labels). places_of old n ++ place ∷ []) same

      among : Contains (name ∷ []) other
      among = subst (Contains (name ∷ [])) same (has_first name [])

      to : Contains (places_of new other) k → Contains (places_of old other) k ⊎ ((k ≡ place) × Contains (name ∷ []) other)
      to has =
          elim (Contains-append_cases (places_of old other) (place ∷ []) k (subst (λ (all : List ℕ). Contains all k) here has)) [
            | inl was ↦ inl was
            | inr last ↦ elim (first_or_later place [] k last) [ inl at ↦ inr (sym at, among) | inr none ↦ absurd (none_in_nil k none) ]
          ]

      back : Contains (places_of old other) k ⊎ ((k ≡ place) × Contains (name ∷ []) other) → Contains (places_of new other) k
      back (inl was) = subst (λ (all : List ℕ). Contains all k) (sym here) (Contains-append_left (places_of old other) (place ∷ []) k was)
      back (inr (at, one)) =
          subst (λ (all : List ℕ). Contains all k) (sym here)
          (Contains-append_right (places_of old other) (place ∷ []) k (subst (Contains (place ∷ [])) (sym at) (has_first place [])))
    by false e = (to, back) where
      elsewhere : places_of new other ≡ places_of old other
      elsewhere = is other ∙ ap (λ (b : Bool). cond b (places_of old name ++ place ∷ []) (places_of mid other)) e ∙ others other e

      to : Contains (places_of new other) k → Contains (places_of old other) k ⊎ ((k ≡ place) × Contains (name ∷ []) other)
      to has = inl (subst (λ (all : List ℕ). Contains all k) elsewhere has)

      back : Contains (places_of old other) k ⊎ ((k ≡ place) × Contains (name ∷ []) other) → Contains (places_of new other) k
      back (inl was) = subst (λ (all : List ℕ). Contains all k) (sym elsewhere) was
      back (inr (at, one)) =
          elim (first_or_later name [] other one) [
            | inl same ↦ absurd (true≢false (sym ((name_eq_decides name other).1 same) ∙ e))
            | inr none ↦ absurd (none_in_nil other none)
          ]

  -- nothing changes where a place is listed for no name
  pub listed_none : (places : Places) → IsListedFor place [] places places
  listed_none places name k = ((λ has. inl has), (λ has. elim has [ inl was ↦ was | inr new ↦ absurd (none_in_nil name new.1) ]))

  -- a place that is listed for some names and then for one more is listed for all of them
  pub listed_more : (names : List Labels) (name : Labels) (old mid new : Places) → IsListedFor place names old mid → IsListedFor place (name ∷ []) mid new
      → IsListedFor place (names ++ name ∷ []) old new
  listed_more names name old mid new some one other k = (to, back) where
    to : Contains (places_of new other) k → Contains (places_of old other) k ⊎ ((k ≡ place) × Contains (names ++ name ∷ []) other)
    to has =
        elim ((one other k).0 has) [
          | inl before ↦ elim ((some other k).0 before) [
            | inl was ↦ inl was
            | inr (at, among) ↦ inr (at, Contains-append_left names (name ∷ []) other among)
          ]
          | inr (at, last) ↦ inr (at, Contains-append_right names (name ∷ []) other last)
        ]

    back : Contains (places_of old other) k ⊎ ((k ≡ place) × Contains (names ++ name ∷ []) other) → Contains (places_of new other) k
    back (inl was) = (one other k).1 (inl ((some other k).1 (inl was)))
    back (inr (at, among)) =
        elim (Contains-append_cases names (name ∷ []) other among) [
          | inl before ↦ (one other k).1 (inl ((some other k).1 (inr (at, before))))
          | inr last ↦ (one other k).1 (inr (at, last))
        ]

-- ---- zones of top servers

-- a server's zones are held with their origins
pub zones_held : (config : Config) (top : Labels) (holder : Server) → server_named config top ≡ Some holder
    → HoldsThese config top (map (λ zone. zone.origin) holder.zones)
zones_held config top holder named origin = (to, back) where
  test : Zone → Bool
  test zone = name_eq zone.origin origin

  held_is : held_zone config top origin ≡ zone_with_origin holder origin
  held_is = ap (option_and_then (λ (h : Server). zone_with_origin h origin)) named

  to : is_some (held_zone config top origin) ≡ true → Contains (map (λ zone. zone.origin) holder.zones) origin
  to some = by (zone_with_origin holder origin) refl (ap is_some (sym held_is) ∙ some) where
    by : (found : Option Zone) → zone_with_origin holder origin ≡ found → is_some found ≡ true → Contains (map (λ zone. zone.origin) holder.zones) origin
    by None is e = cc
    by (Some zone) is e =
        let there = found_there test holder.zones zone is in
        subst (Contains (map (λ zone. zone.origin) holder.zones)) ((name_eq_decides zone.origin origin).0 there.1)
        (map_has (λ (z : Zone). z.origin) holder.zones zone there.0)

  back : Contains (map (λ zone. zone.origin) holder.zones) origin → is_some (held_zone config top origin) ≡ true
  back has =
      let from = from_map (λ (z : Zone). z.origin) holder.zones origin has in
      ap is_some (held_is ∙ (find_some test holder.zones from.0 from.1 ((name_eq_decides from.0.origin origin).1 from.2)).1)

-- one that isn't configured holds none
pub none_held : (config : Config) (top : Labels) → server_named config top ≡ None → HoldsThese config top []
none_held config top unnamed origin = (
  (λ some. absurd (true≢false (sym some ∙ ap (λ (h : Option Server). is_some (option_and_then (λ (h : Server). zone_with_origin h origin) h)) unnamed))),
  (λ has. absurd (none_in_nil origin has)),
)

-- at places of a mapped list the images are read of what is read of the list there
pub read_mapped : {X Y : Type 0} (f : X → Y) (xs : List X) (places : List ℕ) → map f (filter_map (slice_get xs) places) ≡ filter_map (slice_get (map f xs)) places
read_mapped f xs [] = refl
read_mapped f xs (place ∷ places) =
    by (slice_get xs place) (read_mapped f xs places) ∙ ap (λ found. cons_option found (filter_map (slice_get (map f xs)) places)) (sym (slice_get-map f xs place))
  where
    by : (found : Option _) → map f (filter_map (slice_get xs) places) ≡ filter_map (slice_get (map f xs)) places
        → map f (cons_option found (filter_map (slice_get xs) places)) ≡ cons_option (option_map f found) (filter_map (slice_get (map f xs)) places)
    by None rest = rest
    by (Some x) rest = ap (λ (all : List _). f x ∷ all) rest

-- the items of a list are read at their places too where more stand behind them
read_within : {X : Type 0} (xs more : List X) (place : ℕ) → place < length xs → slice_get (xs ++ more) place ≡ slice_get xs place
read_within [] more place within = absurd (omega (arith, within))
read_within (x ∷ xs) more zero within = refl
read_within (x ∷ xs) more (suc place) within = read_within xs more place (omega (arith, within))

-- the one behind them is read at the place of their number
read_behind_all : {X : Type 0} (xs : List X) (x : X) → slice_get (xs ++ x ∷ []) (length xs) ≡ Some x
read_behind_all [] x = refl
read_behind_all (first ∷ xs) x = read_behind_all xs x

module _ (config : Config) where
  -- of no top server nothing is listed
  pub lists_none : (places : Places) → ((name : Labels) → places_of places name ≡ []) → ListsTops (with_tops config []) places
  lists_none places none origin place = (
    (λ has. absurd (none_in_nil place (subst (λ (all : List ℕ). Contains all place) (none origin) has))),
    (λ so. absurd (let none = slice_get_within [] place so.0 so.1 in omega (arith, none))),
  )

  -- one top server's place is listed more for the origins of its zones
  pub lists_more : (tops : List Labels) (top : Labels) (names : List Labels) (old new : Places) → HoldsThese config top names → ListsTops (with_tops config tops) old
      → IsListedFor (length tops) names old new → ListsTops (with_tops config (tops ++ top ∷ [])) new
  lists_more tops top names old new holds before put origin place = (to, back) where
    to : Contains (places_of new origin) place → HoldsAt (with_tops config (tops ++ top ∷ [])) origin place
    to has =
        elim ((put origin place).0 has) [
          | inl was ↦ (
              let (one, there, held) = (before origin place).0 was in
              (one, read_within tops (top ∷ []) place (slice_get_within tops place one there) ∙ there, held)
              )
          | inr (at, among) ↦ (top, ap (slice_get (tops ++ top ∷ [])) at ∙ read_behind_all tops top, (holds origin).1 among)
        ]

    back : HoldsAt (with_tops config (tops ++ top ∷ [])) origin place → Contains (places_of new origin) place
    back (one, there, held) =
        elim (cases_lt place (length tops)) [
          | inl less ↦ (put origin place).1 (inl ((before origin place).1 (one, sym (read_within tops (top ∷ []) place less) ∙ there, held)))
          | inr past ↦ (
              let at : place ≡ length tops =
              omega (arith, slice_get_within (tops ++ top ∷ []) place one there, length-append tops (top ∷ []), past) in
              let same : Some one ≡ Some top = sym there ∙ ap (slice_get (tops ++ top ∷ [])) at ∙ read_behind_all tops top in
              let is : one ≡ top = cc in
              (put origin place).1 (inr (at, (holds origin).0 (subst (λ (t : Labels). is_some (held_zone config t origin) ≡ true) is held)))
              )
        ]

  module _ (name : Labels) where
    -- a server that holds a zone for the name holds one whose origin is a front of it
    pub held_above : (top : Labels) → is_some (nearest_of config top name) ≡ true
        → (count : ℕ) × (count < length name + 1) × (is_some (held_zone config top (take count name)) ≡ true)
    held_above top some = by (server_named config top) refl some where
      by : (holder : Option Server) → server_named config top ≡ holder → is_some (option_and_then (λ h. nearest h name) holder) ≡ true
          → (count : ℕ) × (count < length name + 1) × (is_some (held_zone config top (take count name)) ≡ true)
      by None named e = cc
      by (Some holder) named e = at (longest (λ above. is_some (zone_with_origin holder above)) name) refl e where
        at : (found : Option Labels) → longest (λ above. is_some (zone_with_origin holder above)) name ≡ found → is_some (option_and_then (zone_with_origin holder) found) ≡ true
            → (count : ℕ) × (count < length name + 1) × (is_some (held_zone config top (take count name)) ≡ true)
        at None is e = cc
        at (Some origin) is e =
            let there = found_there (λ (above : Labels). is_some (zone_with_origin holder above)) (reverse (prefixes name)) origin is in
            let prefix = Contains-permutation (reverse (prefixes name)) (prefixes name) origin
            (IsPermutation-sym (prefixes name) (reverse (prefixes name)) (IsPermutation-reverse (prefixes name))) there.0 in
            let begins = from_prefixes name origin prefix in (
              length origin,
              omega (arith, begins_short origin name begins),
              ap (λ (h : Option Server). is_some (option_and_then (λ (h : Server). zone_with_origin h (take (length origin) name)) h)) named
                  ∙ ap (λ (n : Labels). is_some (zone_with_origin holder n)) (front_is_take origin begins.0 name begins.1)
                  ∙ there.1,
            )

    -- a server that holds a zone whose origin is a front of the name holds one for the name
    pub above_held : (top : Labels) (count : ℕ) → is_some (held_zone config top (take count name)) ≡ true → is_some (nearest_of config top name) ≡ true
    above_held top count some = by (server_named config top) refl some where
      by : (holder : Option Server) → server_named config top ≡ holder → is_some (option_and_then (λ h. zone_with_origin h (take count name)) holder) ≡ true
          → is_some (option_and_then (λ h. nearest h name) holder) ≡ true
      by None named e = cc
      by (Some holder) named e =
          let front = prefixes_have name (take count name) (drop count name, take-append-drop count name) in
          let back = Contains-permutation (prefixes name) (reverse (prefixes name)) (take count name) (IsPermutation-reverse (prefixes name)) front in
          let found = find_some (λ (above : Labels). is_some (zone_with_origin holder above)) (reverse (prefixes name)) (take count name) back e in
          ap (λ (o : Option Labels). is_some (option_and_then (zone_with_origin holder) o)) found.1 ∙ found.2

    -- at the places that are listed for a name and its ancestors, in order, the top servers stand that hold a zone for it
    pub tops_read : (listed : Places) → ListsTops config listed → (places : List ℕ) → IsStrictlySortedBy nat_cmp places
        → ((place : ℕ) → Contains places place ↔ IsListedAbove listed name (length name + 1) place)
        → filter_map (slice_get config.tops) places ≡ tops_holding config name
    tops_read listed lists places sorted are =
        read_passing (λ top. is_some (nearest_of config top name)) config.tops places (set_rises places sorted) (λ place. (to place, back place))
      where
        to : (place : ℕ) → Contains places place → (top : Labels) × (slice_get config.tops place ≡ Some top) × (is_some (nearest_of config top name) ≡ true)
        to place has =
            let (count, few, among) = (are place).0 has in
            let (top, there, held) = (lists (take count name) place).0 among in
            (top, there, above_held top count held)

        back : (place : ℕ) → (top : Labels) × (slice_get config.tops place ≡ Some top) × (is_some (nearest_of config top name) ≡ true) → Contains places place
        back place (top, there, holds) =
            let (count, few, held) = held_above top holds in
            (are place).1 (count, few, (lists (take count name) place).1 (top, there, held))

-- ---- loops over places

-- a set has the places that it had and those so far, and then one more
pub places_more : (old before after places : List ℕ) (i : ℕ) → i < length places
    → ((other : ℕ) → Contains before other ↔ (Contains old other ⊎ Contains (take i places) other)) → after ≡ insert_key nat_cmp before (get_or places i 0)
    → (other : ℕ) → Contains after other ↔ (Contains old other ⊎ Contains (take (i + 1) places) other)
places_more old before after places i within so put other = (to, back) where
  place : ℕ
  place = get_or places i 0

  more : take (i + 1) places ≡ take i places ++ place ∷ []
  more = take_more places i 0 within

  to : Contains after other → Contains old other ⊎ Contains (take (i + 1) places) other
  to has =
      elim ((put_place place before other).0 (subst (λ (all : List ℕ). Contains all other) put has)) [
        | inl was ↦ elim ((so other).0 was) [
          | inl old_one ↦ inl old_one
          | inr early ↦ inr (subst (λ (all : List ℕ). Contains all other) (sym more) (Contains-append_left (take i places) (place ∷ []) other early))
        ]
        | inr same ↦
            inr (subst (λ (all : List ℕ). Contains all other) (sym more)
            (Contains-append_right (take i places) (place ∷ []) other (subst (Contains (place ∷ [])) same (has_first place []))))
      ]

  back : Contains old other ⊎ Contains (take (i + 1) places) other → Contains after other
  back has = subst (λ (all : List ℕ). Contains all other) (sym put) ((put_place place before other).1 (by has)) where
    by : Contains old other ⊎ Contains (take (i + 1) places) other → Contains before other ⊎ (place ≡ other)
    by (inl old_one) = inl ((so other).1 (inl old_one))
    by (inr some) =
        elim (Contains-append_cases (take i places) (place ∷ []) other (subst (λ (all : List ℕ). Contains all other) more some)) [
          | inl early ↦ inl ((so other).1 (inr early))
          | inr last ↦ elim (first_or_later place [] other last) [ inl same ↦ inr same | inr none ↦ absurd (none_in_nil other none) ]
        ]

-- a set has the places that are listed for shorter fronts of a name, and then those of one front more
pub front_more : (places : Places) (name : Labels) (count : ℕ) (before after listed : List ℕ) → listed ≡ places_of places (take count name)
    → ((place : ℕ) → Contains before place ↔ IsListedAbove places name count place)
    → ((place : ℕ) → Contains after place ↔ (Contains before place ⊎ Contains listed place))
    → (place : ℕ) → Contains after place ↔ IsListedAbove places name (count + 1) place
front_more places name count before after listed are so put place = (to, back) where
  to : Contains after place → IsListedAbove places name (count + 1) place
  to has =
      elim ((put place).0 has) [
        | inl was ↦ (let (shorter, less, among) = (so place).0 was in (shorter, omega (arith, less), among))
        | inr here ↦ (count, omega arith, subst (λ (all : List ℕ). Contains all place) are here)
      ]

  back : IsListedAbove places name (count + 1) place → Contains after place
  back (some, less, among) =
      elim (cases_lt some count) [
        | inl shorter ↦ (put place).1 (inl ((so place).1 (some, shorter, among)))
        | inr past ↦ (
            let at : some ≡ count = omega (arith, less, past) in
            (put place).1 (inr (subst (λ (all : List ℕ). Contains all place) (ap (λ (n : ℕ). places_of places (take n name)) at ∙ sym are) among)))
      ]

-- the items at places that were read, and then the one at one more, if there is one
pub read_more : {X : Type 0} (xs : List X) (places : List ℕ) (i : ℕ) → i < length places → (read : List X) → read ≡ filter_map (slice_get xs) (take i places)
    → (next : List X) → cons_option (slice_get xs (get_or places i 0)) [] ≡ next → read ++ next ≡ filter_map (slice_get xs) (take (i + 1) places)
read_more xs places i within read so next is =
    ap (λ (all : List _). all ++ next) so
    ∙ ap (λ (all : List _). filter_map (slice_get xs) (take i places) ++ all) (sym is)
    ∙ sym (filter_map-append (slice_get xs) (take i places) (get_or places i 0 ∷ []))
    ∙ ap (filter_map (slice_get xs)) (sym (take_more places i 0 within))
