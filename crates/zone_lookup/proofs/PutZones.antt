-- Zones that are put to others.
use Rattle.std.proofs.Common.{◌≡◌, ℕ, ◌-◌, ◌<◌, ◌≤◌, List, [], ◌∷◌, ◌++◌, map, length, drop, get_or, Contains, flat_map, inl, inr, sym, subst}
use Rattle.std.specs.Prelude.{◌↔◌, IsPermutation}
use Rattle.std.proofs.lemmas.List.Elements.{Contains-append_left, Contains-append_right, Contains-append_cases}
use Rattle.std.proofs.lemmas.List.Sorted.{Contains-permutation, IsPermutation-sym}
use Rattle.dns_data.proofs.Membership.{first_or_later, flat_map_has, from_flat_map, from_map, has_first, map_has, none_in_nil}
use Rattle.net_model.specs.declared.config.Zone.{Zone}
use Rattle.zone_tree.specs.Tree.{ZoneTree}
use Rattle.zone_lookup.specs.Firsts.{ArePut}
use Rattle.zone_lookup.proofs.FirstsByName.{from_before}

-- some are put, and then others
pub put_more : (more rest old mid new : List Zone) → ArePut rest old mid → ArePut more mid new → ArePut (more ++ rest) old new
put_more more rest old mid new first second zone = (
  λ has. elim ((second zone).0 has) [
    | inl was ↦ elim ((first zone).0 was) [ inl before ↦ inl before | inr one ↦ inr (Contains-append_right more rest zone one) ]
    | inr one ↦ inr (Contains-append_left more rest zone one)
  ],
  λ either. elim either [
    | inl before ↦ (second zone).1 (inl ((first zone).1 (inl before)))
    | inr some ↦ elim (Contains-append_cases more rest zone some) [
      | inl one ↦ (second zone).1 (inr one)
      | inr one ↦ (second zone).1 (inl ((first zone).1 (inr one)))
    ]
  ],
)

-- the zones of the value before a place are put to those of the values from that place on
pub put_zones_before : {Y : Type 0} (zones_of : Y → List Zone) (all : List Y) (left : ℕ) (item : Y) (old mid new : List Zone) → 0 < left → left ≤ length all
    → item ≡ get_or all (left - 1) item → ArePut (flat_map zones_of (drop left all)) old mid → ArePut (zones_of item) mid new
    → ArePut (flat_map zones_of (drop (left - 1) all)) old new
put_zones_before {Y} zones_of all left item old mid new some within is before put =
    subst (λ (ys : List Y). ArePut (flat_map zones_of ys) old new) (sym (from_before all left item some within is))
    (put_more (zones_of item) (flat_map zones_of (drop left all)) old mid new before put)

-- each zone by itself is put as all of them are
pub each_put : (zones old new : List Zone) → ArePut (flat_map (λ zone. zone ∷ []) zones) old new → ArePut zones old new
each_put zones old new put zone =
    let alone : Zone → List Zone = λ (one : Zone). one ∷ [] in (
      λ has. elim ((put zone).0 has) [
        | inl was ↦ inl was
        | inr one ↦ (
            let (own, among, is) = from_flat_map alone zones zone one in
            inr (elim (first_or_later own [] zone is) [ inl same ↦ subst (Contains zones) same among | inr none ↦ absurd (none_in_nil zone none) ]))
      ],
      λ either. (put zone).1 (elim either [ inl was ↦ inl was | inr one ↦ inr (flat_map_has alone zones zone zone one (has_first zone [])) ]),
    )

-- a zone is put behind others
pub one_put : (zones : List Zone) (zone : Zone) → ArePut (zone ∷ []) zones (zones ++ zone ∷ [])
one_put zones zone other = (
  Contains-append_cases zones (zone ∷ []) other,
  λ either. elim either [ inl was ↦ Contains-append_left zones (zone ∷ []) other was | inr one ↦ Contains-append_right zones (zone ∷ []) other one ],
)

-- a zone that is there is put
pub put_again : (zones : List Zone) (zone : Zone) → Contains zones zone → ArePut (zone ∷ []) zones zones
put_again zones zone there other = (
  λ has. inl has,
  λ either. elim either [
    | inl was ↦ was
    | inr one ↦ elim (first_or_later zone [] other one) [ inl same ↦ subst (Contains zones) same there | inr none ↦ absurd (none_in_nil other none) ]
  ],
)

-- trees in another order have the same zones
pub zones_sorted : (trees sorted : List ZoneTree) → IsPermutation trees sorted → (zone : Zone)
    → Contains (map (λ tree. tree.zone) sorted) zone ↔ Contains (map (λ tree. tree.zone) trees) zone
zones_sorted trees sorted same zone = (
  λ has. let (tree, among, is) = from_map (λ (one : ZoneTree). one.zone) sorted zone has in
      subst (Contains (map (λ (one : ZoneTree). one.zone) trees)) is
      (map_has (λ (one : ZoneTree). one.zone) trees tree (Contains-permutation sorted trees tree (IsPermutation-sym trees sorted same) among)),
  λ has. let (tree, among, is) = from_map (λ (one : ZoneTree). one.zone) trees zone has in
      subst (Contains (map (λ (one : ZoneTree). one.zone) sorted)) is
      (map_has (λ (one : ZoneTree). one.zone) sorted tree (Contains-permutation trees sorted tree same among)),
)

-- trees whose zones are those that were put to none have these zones
pub zones_of_put : (more none made : List Zone) (trees : List ZoneTree) → none ≡ [] → ArePut more none made
    → ((zone : Zone) → Contains (map (λ tree. tree.zone) trees) zone ↔ Contains made zone)
    → (zone : Zone) → Contains (map (λ tree. tree.zone) trees) zone ↔ Contains more zone
zones_of_put more none made trees nothing put same zone = (
  λ has. elim ((put zone).0 ((same zone).0 has)) [
    | inl before ↦ absurd (none_in_nil zone (subst (λ (zones : List Zone). Contains zones zone) nothing before))
    | inr one ↦ one
  ],
  λ one. (same zone).1 ((put zone).1 (inr one)),
)
