-- Runs with keys, sorted: they stand in the order of their owners, and those of a name as they stood.
use Rattle.std.proofs.Common.{◌≡◌, ℕ, suc, ◌+◌, ◌<◌, Bool, true, false, cond, not, ◌&&◌, List, [], ◌∷◌, ◌++◌, ◌↔◌, map, filter, flat_map, get_or, take, Contains, All, IsSorted, IsPermutation, Ordering, Less, Equal, Greater, is_lt, sym, refl, ap, ◌∙◌, subst, inl, inr, arith}
use Rattle.std.specs.Cmp.{IsTotalOrder}
use Rattle.std.specs.List.{list_any}
use Rattle.std.specs.List.Sorted.{ties, IsStableBy}
use Rattle.std.specs.Ordering.{nat_cmp, ordering_then}
use Rattle.std.proofs.lemmas.Cmp.{ranked, nat_cmp_total, on_total, then_total}
use Rattle.std.proofs.lemmas.List.{map-append}
use Rattle.std.proofs.lemmas.List.Elements.{All-contains, filter-append}
use Rattle.std.proofs.lemmas.List.Sorted.{All-permutation, IsPermutation-sym, IsPermutation-map, Contains-permutation, list_any-IsPermutation}
use Rattle.dns_data.specs.Name.{Labels, name_eq, name_cmp, is_prefix}
use Rattle.dns_data.specs.declared.rdata.Rdata.{Rdata}
use Rattle.dns_data.specs.declared.rdata.Rr.{Rr}
use Rattle.dns_data.proofs.Membership.{none_in_nil, has_first, has_later, first_or_later, filter_has, from_filter, map_has, from_map, flat_map_has, from_flat_map}
use Rattle.dns_data.proofs.NameOrder.{names_total}
use Rattle.dns_data.proofs.Names.{name_eq_decides}
use Rattle.dns_data.proofs.Searches.{any_none, from_any, filter_none, filter_same}
use Rattle.net_model.specs.declared.config.Zone.{Zone}
use Rattle.zone_tree.specs.Owners.{data_of_runs, leading}
use Rattle.zone_tree.specs.Records.{data_of}
use Rattle.zone_tree.specs.Runs.{IsKeyedRun, data_of_run, keyed_cmp, owner_of, records_in}
use Rattle.zone_tree.specs.declared.runs.KeyedRun.{KeyedRun}
use Rattle.name_table.proofs.NameKeys.{keys_tell}
use Rattle.zone_tree.proofs.Owned.{rdata_of, tied_names}

-- the key of a run
abbrev key_at : KeyedRun → ℕ
key_at run = run.key

-- ---- the order of keyed runs

-- the order of keyed runs is total
pub keyed_total : IsTotalOrder keyed_cmp
keyed_total = then_total (on_total key_at nat_cmp_total) (on_total owner_of names_total)

less_differs : (x y : ℕ) → x < y → x ≡ y → ⊥
less_differs x y less same = omega arith

more_differs : (x y : ℕ) → y < x → x ≡ y → ⊥
more_differs x y more same = omega arith

-- runs whose keys are those below one name stand as their owners do
pub stand_as_owners : (origin : Labels) (a b : KeyedRun) → IsKeyedRun origin a → IsKeyedRun origin b → keyed_cmp a b ≡ name_cmp (owner_of a) (owner_of b)
stand_as_owners origin a b first second = by (nat_cmp a.key b.key) refl where
  tell : (a.key ≡ b.key → ⊥) → nat_cmp a.key b.key ≡ name_cmp (owner_of a) (owner_of b)
  tell differ = keys_tell origin (owner_of a) (owner_of b) a.key b.key first.key second.key differ

  by : (o : Ordering) → o ≡ nat_cmp a.key b.key → ordering_then o (name_cmp (owner_of a) (owner_of b)) ≡ name_cmp (owner_of a) (owner_of b)
  by Less e = e ∙ tell (less_differs a.key b.key (ranked a.key b.key Less e))
  by Equal e = refl
  by Greater e = e ∙ tell (more_differs a.key b.key (ranked a.key b.key Greater e))

-- the first run stands before the second
abbrev pub stands_before : KeyedRun → KeyedRun → Bool
stands_before a b = is_lt (keyed_cmp a b)

-- two of which neither stands before the other have one owner
ties_tell : (origin : Labels) (a b : KeyedRun) → IsKeyedRun origin a → IsKeyedRun origin b
    → ties stands_before a b ≡ name_eq (owner_of b) (owner_of a)
ties_tell origin a b first second =
    ap (λ (o : Ordering). not (is_lt o) && not (is_lt (keyed_cmp b a))) (stand_as_owners origin a b first second)
    ∙ ap (λ (o : Ordering). not (is_lt (name_cmp (owner_of a) (owner_of b))) && not (is_lt o)) (stand_as_owners origin b a second first)
    ∙ tied_names (owner_of a) (owner_of b)

-- sorted runs stand in the order of their owners
pub sorted_by_owner : (origin : Labels) (runs : List KeyedRun) → All (IsKeyedRun origin) runs → IsSorted keyed_cmp runs
    → IsSorted (λ (a b : KeyedRun). name_cmp (owner_of a) (owner_of b)) runs
sorted_by_owner origin runs keyed sorted = λ k d low high.
    sym (ap is_lt (stand_as_owners origin (get_or runs (k + 1) d) (get_or runs k d) (keyed (k + 1) d high) (keyed k d (omega (arith, high)))))
    ∙ sorted k d low high

-- ---- the data of a name

module _ (origin : Labels) (old new : List KeyedRun) (keyed : All (IsKeyedRun origin) old) (same : IsPermutation old new)
    (stable : IsStableBy stands_before old new) where
  -- a stable sort keeps the data of each name, in their order
  pub data_stay : (name : Labels) → data_of_runs new name ≡ data_of_runs old name
  data_stay name = ap (flat_map data_of_run) (by (list_any of_name old) refl) where
    of_name : KeyedRun → Bool
    of_name run = name_eq (owner_of run) name

    by : (some : Bool) → list_any of_name old ≡ some → filter of_name new ≡ filter of_name old
    by true is =
        let found = from_any of_name old is in
        let run : KeyedRun = found.0 in
        let key : IsKeyedRun origin run = All-contains (IsKeyedRun origin) old run keyed found.1 in
        let owner : owner_of run ≡ name = (name_eq_decides (owner_of run) name).0 found.2 in
        let alike : (runs : List KeyedRun) → All (IsKeyedRun origin) runs → (other : KeyedRun) → Contains runs other
        → ties stands_before run other ≡ of_name other =
        (λ runs all other has.
        ties_tell origin run other key (All-contains (IsKeyedRun origin) runs other all has) ∙ ap (name_eq (owner_of other)) owner) in
        sym (filter_same (ties stands_before run) of_name new (alike new (All-permutation (IsKeyedRun origin) old new same keyed)))
        ∙ stable run ∙ filter_same (ties stands_before run) of_name old (alike old keyed)
    by false is =
        filter_none of_name new (sym (list_any-IsPermutation of_name old new same) ∙ is) ∙ sym (filter_none of_name old is)

-- ---- runs and their records

-- the owner of each record is that of the first, if it is that of each other
pub of_run : (first : Rr) (rest : List Rr) → All (λ rr. rr.owner ≡ first.owner) rest → (rr : Rr) → Contains (first ∷ rest) rr → rr.owner ≡ first.owner
of_run first rest owned rr has =
    elim (first_or_later first rest rr has) [
      | inl same ↦ sym (ap (λ (one : Rr). one.owner) same)
      | inr later ↦ All-contains (λ (one : Rr). one.owner ≡ first.owner) rest rr owned later
    ]

-- the records at the front that have an owner have it
pub leading_owned : (owner : Labels) (rrs : List Rr) (rr : Rr) → Contains (take (leading owner (map (λ (one : Rr). one.owner) rrs)) rrs) rr → rr.owner ≡ owner
leading_owned owner [] rr has = absurd (none_in_nil rr has)
leading_owned owner (first ∷ rrs) rr has = by (name_eq first.owner owner) refl has (leading_owned owner rrs rr) where
  by : (b : Bool) → name_eq first.owner owner ≡ b
      → Contains (take (cond b (suc (leading owner (map (λ (one : Rr). one.owner) rrs))) 0) (first ∷ rrs)) rr
      → (Contains (take (leading owner (map (λ (one : Rr). one.owner) rrs)) rrs) rr → rr.owner ≡ owner) → rr.owner ≡ owner
  by true e has rest =
      elim (first_or_later first (take (leading owner (map (λ (one : Rr). one.owner) rrs)) rrs) rr has) [
        | inl same ↦ sym (ap (λ (one : Rr). one.owner) same) ∙ (name_eq_decides first.owner owner).0 e
        | inr later ↦ rest later
      ]
  by false e has rest = absurd (none_in_nil rr has)

-- a filter whose test each item passes leaves all
pub all_kept : (test : Rr → Bool) (rrs : List Rr) → ((rr : Rr) → Contains rrs rr → test rr ≡ true) → filter test rrs ≡ rrs
all_kept test [] passes = refl
all_kept test (rr ∷ rrs) passes =
    rw (passes rr (has_first rr rrs)) (ap (λ (xs : List Rr). rr ∷ xs) (all_kept test rrs (λ one has. passes one (has_later rr rrs one has))))

-- the data of a name among lists of records in a row
data_of_both : (name : Labels) (front back : List Rr) → data_of (front ++ back) name ≡ data_of front name ++ data_of back name
data_of_both name front back =
    ap (map rdata_of) (filter-append (λ (rr : Rr). name_eq rr.owner name) front back)
    ∙ map-append rdata_of (filter (λ (rr : Rr). name_eq rr.owner name) front) (filter (λ (rr : Rr). name_eq rr.owner name) back)

module _ (origin : Labels) where
  -- the data of a name among the records of runs are those of the name's runs
  pub data_through : (runs : List KeyedRun) → ((run : KeyedRun) → Contains runs run → IsKeyedRun origin run) → (name : Labels)
      → data_of_runs runs name ≡ data_of (flat_map records_in runs) name
  data_through [] keyed name = refl
  data_through (run ∷ runs) keyed name =
      by (name_eq (owner_of run) name) refl (data_through runs (λ other has. keyed other (has_later run runs other has)) name)
      ∙ sym (data_of_both name (records_in run) (flat_map records_in runs))
    where
      tells : (b : Bool) → name_eq (owner_of run) name ≡ b → (rr : Rr) → Contains (records_in run) rr → name_eq rr.owner name ≡ b
      tells b is rr has =
          ap (λ (x : Labels). name_eq x name) (of_run run.first.now run.rest.now (keyed run (has_first run runs)).one_owner rr has) ∙ is

      by : (b : Bool) → name_eq (owner_of run) name ≡ b → data_of_runs runs name ≡ data_of (flat_map records_in runs) name
          → flat_map data_of_run (cond b (run ∷ filter (λ other. name_eq (owner_of other) name) runs) (filter (λ other. name_eq (owner_of other) name) runs))
          ≡ data_of (records_in run) name ++ data_of (flat_map records_in runs) name
      by true is rest =
          ap (λ (all : List Rdata). data_of_run run ++ all) rest
          ∙ ap (λ (rrs : List Rr). map rdata_of rrs ++ data_of (flat_map records_in runs) name)
          (sym (all_kept (λ (rr : Rr). name_eq rr.owner name) (records_in run) (tells true is)))
      by false is rest =
          rest
          ∙ ap (λ (rrs : List Rr). map rdata_of rrs ++ data_of (flat_map records_in runs) name)
          (sym (filter_none (λ (rr : Rr). name_eq rr.owner name) (records_in run) (any_none (λ (rr : Rr). name_eq rr.owner name) (records_in run) (tells false is))))

  -- the owners of runs are those of their records
  pub owners_through : (runs : List KeyedRun) → ((run : KeyedRun) → Contains runs run → IsKeyedRun origin run) → (name : Labels)
      → Contains (map owner_of runs) name ↔ Contains (map (λ (rr : Rr). rr.owner) (flat_map records_in runs)) name
  owners_through runs keyed name = (there, back) where
    there : Contains (map owner_of runs) name → Contains (map (λ (rr : Rr). rr.owner) (flat_map records_in runs)) name
    there has =
        let (run, among, is) = from_map owner_of runs name has in
        subst (Contains (map (λ (rr : Rr). rr.owner) (flat_map records_in runs))) is
        (map_has (λ (rr : Rr). rr.owner) (flat_map records_in runs) run.first.now
        (flat_map_has records_in runs run run.first.now among (has_first run.first.now run.rest.now)))

    back : Contains (map (λ (rr : Rr). rr.owner) (flat_map records_in runs)) name → Contains (map owner_of runs) name
    back has =
        let (rr, among, is) = from_map (λ (one : Rr). one.owner) (flat_map records_in runs) name has in
        let (run, there, within) = from_flat_map records_in runs rr among in
        subst (Contains (map owner_of runs)) (sym (of_run run.first.now run.rest.now (keyed run there).one_owner rr within) ∙ is) (map_has owner_of runs run there)

-- the owners of runs, in another order, are those of the zone's records at or below the origin, if the runs have the owners
-- of these records
pub owners_kept : (zone : Zone) (old new : List KeyedRun) → IsPermutation old new → (name : Labels)
    → (Contains (map owner_of old) name ↔ Contains (map (λ (rr : Rr). rr.owner) (filter (λ (rr : Rr). is_prefix zone.origin rr.owner) zone.rrs)) name)
    → Contains (map owner_of new) name ↔ (Contains (map (λ (rr : Rr). rr.owner) zone.rrs) name × (is_prefix zone.origin name ≡ true))
owners_kept zone old new same name owned = (there, back) where
  within : Rr → Bool
  within rr = is_prefix zone.origin rr.owner

  moved : IsPermutation (map owner_of old) (map owner_of new)
  moved = IsPermutation-map owner_of old new same

  there : Contains (map owner_of new) name → Contains (map (λ (rr : Rr). rr.owner) zone.rrs) name × (is_prefix zone.origin name ≡ true)
  there has =
      let before : Contains (map owner_of old) name =
      Contains-permutation (map owner_of new) (map owner_of old) name (IsPermutation-sym (map owner_of old) (map owner_of new) moved) has in
      let (rr, kept, is) = from_map (λ (one : Rr). one.owner) (filter within zone.rrs) name (owned.0 before) in
      let (among, inside) = from_filter within zone.rrs rr kept in (
        subst (Contains (map (λ (one : Rr). one.owner) zone.rrs)) is (map_has (λ (one : Rr). one.owner) zone.rrs rr among),
        subst (λ (x : Labels). is_prefix zone.origin x ≡ true) is inside,
      )

  back : Contains (map (λ (rr : Rr). rr.owner) zone.rrs) name × (is_prefix zone.origin name ≡ true) → Contains (map owner_of new) name
  back (has, inside) =
      let (rr, among, is) = from_map (λ (one : Rr). one.owner) zone.rrs name has in
      let kept : Contains (filter within zone.rrs) rr =
      filter_has within zone.rrs rr among (subst (λ (x : Labels). is_prefix zone.origin x ≡ true) (sym is) inside) in
      Contains-permutation (map owner_of old) (map owner_of new) name moved
      (owned.1 (subst (Contains (map (λ (one : Rr). one.owner) (filter within zone.rrs))) is (map_has (λ (one : Rr). one.owner) (filter within zone.rrs) rr kept)))
