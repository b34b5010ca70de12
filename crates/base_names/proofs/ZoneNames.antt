-- The base names of zones and of configurations, by the trees of zones.
use Rattle.std.proofs.Common.{◌≡◌, ◌∙◌, true, ◌⊎◌, ◌&&◌, Bor, List, [], ◌∷◌, ◌++◌, map, All, Contains, inl, inr, sym, subst}
use Rattle.std.specs.Prelude.{◌↔◌}
use Rattle.std.specs.List.{list_any}
use Rattle.std.proofs.lemmas.Bool.{and_from, and_parts, or_cases, or_right}
use Rattle.std.proofs.lemmas.List.Elements.{Contains-append_left, Contains-append_right, Contains-append_cases}
use Rattle.dns_data.specs.Name.{Labels, name_eq, is_prefix}
use Rattle.dns_data.specs.declared.rdata.Rr.{Rr}
use Rattle.dns_data.proofs.Membership.{all_from_contains, from_flat_map, map_has, none_in_nil}
use Rattle.dns_data.proofs.NameFronts.{is_prefix_tells, is_prefix_told, two_fronts}
use Rattle.dns_data.proofs.Names.{name_eq_decides}
use Rattle.dns_data.proofs.Searches.{any_has, from_any}
use Rattle.net_model.specs.declared.config.Config.{Config}
use Rattle.net_model.specs.declared.config.Server.{Server}
use Rattle.net_model.specs.declared.config.Zone.{Zone}
use Rattle.net_model.specs.Reading.{Redirection, redirections_of, joined_ground, zones}
use Rattle.net_model.specs.Zone.{exists_in}
use Rattle.net_model.specs.Configured.{KeepsWithin, AreConsistent}
use Rattle.zone_tree.specs.Tree.{ZoneTree}
use Rattle.zone_lookup.specs.Hosts.{HaveZonesOf}
use Rattle.label_graph.specs.declared.pair.Pair.{Pair}
use Rattle.base_names.specs.Base.{IsInConfig, IsInZone, zone_redirections}
use Rattle.label_graph.specs.Graphs.{SomeItem}
use Rattle.label_graph.specs.LiveSet.{HavePrefixes}
use Rattle.label_graph.specs.Pairs.{redirection, ground_with, AreSame}
use Rattle.label_graph.specs.Targets.{IsPrefixFrom}
use Rattle.label_graph.proofs.Passing.{some_seen, some_flat}
use Rattle.label_graph.proofs.TargetLinks.{front_above, front_itself}
use Rattle.base_names.proofs.JoinedBase.{front_begins, begins_front, base_redirections, from_nothing, in_turn, same_as_joined}

-- ---- one zone

-- an existing name is a front of the origin or of an owner
from_existing : (zone : Zone) (name : Labels) → exists_in zone name ≡ true → IsInZone name zone
from_existing zone name exists =
    elim (or_cases (name_eq name zone.origin) (is_prefix zone.origin name && list_any (λ rr. is_prefix name rr.owner) zone.rrs) exists) [
      | inl origin ↦ inl (subst (IsPrefixFrom 0 zone.origin) (sym ((name_eq_decides name zone.origin).0 origin)) (front_itself zone.origin))
      | inr beneath ↦ (
          let parts = and_parts (is_prefix zone.origin name) (list_any (λ rr. is_prefix name rr.owner) zone.rrs) beneath in
          let (rr, has, above) = from_any (λ (one : Rr). is_prefix name one.owner) zone.rrs parts.1 in
          inr (rr, has, begins_front rr.owner name (is_prefix_tells name rr.owner above)))
    ]

-- where all owners are at or below the origin, a front of one is a front of the origin, or exists
to_existing : (zone : Zone) (name : Labels) → KeepsWithin zone → IsInZone name zone
    → IsPrefixFrom 0 zone.origin name ⊎ (exists_in zone name ≡ true)
to_existing zone name below (inl front) = inl front
to_existing zone name below (inr (rr, has, front)) =
    let (down, whole) = is_prefix_tells zone.origin rr.owner (below rr has) in
    let (rest, is) = front_begins rr.owner name front in
    elim (two_fronts zone.origin down name rest (whole ∙ sym is)) [
      | inl inside ↦
          inr (or_right (name_eq name zone.origin) (is_prefix zone.origin name && list_any (λ one. is_prefix name one.owner) zone.rrs)
          (and_from (is_prefix zone.origin name) (list_any (λ one. is_prefix name one.owner) zone.rrs) (is_prefix_told zone.origin name inside)
          (any_has (λ (one : Rr). is_prefix name one.owner) zone.rrs rr has (is_prefix_told name rr.owner (rest, is)))))
      | inr above ↦ inl (begins_front zone.origin name above)
    ]

-- the fronts of the origin with the existing names are the zone's base names
pub zone_put : (zone : Zone) → KeepsWithin zone → (old first names : List Labels)
    → ((front : Labels) → Contains first front ↔ (Contains old front ⊎ IsPrefixFrom 0 zone.origin front))
    → ((name : Labels) → Contains names name ↔ (exists_in zone name ≡ true))
    → (name : Labels) → Contains (first ++ names) name ↔ (Contains old name ⊎ IsInZone name zone)
zone_put zone below old first names fronts existing name = (
  λ has. elim (Contains-append_cases first names name has) [
    | inl front ↦ elim ((fronts name).0 front) [ inl was ↦ inl was | inr is ↦ inr (inl is) ]
    | inr exists ↦ inr (from_existing zone name ((existing name).0 exists))
  ],
  λ either. elim either [
    | inl was ↦ Contains-append_left first names name ((fronts name).1 (inl was))
    | inr in_zone ↦ elim (to_existing zone name below in_zone) [
      | inl front ↦ Contains-append_left first names name ((fronts name).1 (inr front))
      | inr exists ↦ Contains-append_right first names name ((existing name).1 exists)
    ]
  ],
)

-- with a zone's base names the names have their prefixes, if they had them before
pub zone_prefixes : (zone : Zone) (old new : List Labels) → HavePrefixes old
    → ((name : Labels) → Contains new name ↔ (Contains old name ⊎ IsInZone name zone)) → HavePrefixes new
zone_prefixes zone old new have put =
    record {
      root = (put []).1 (inl have.root);
      prefixes = λ above below has. elim ((put (above ++ below)).0 has) [
        | inl was ↦ (put above).1 (inl (have.prefixes above below was))
        | inr in_zone ↦ (put above).1 (inr (elim in_zone [
          | inl front ↦ inl (front_above zone.origin above below front)
          | inr (rr, has, front) ↦ inr (rr, has, front_above rr.owner above below front)
        ]))
      ];
    }

-- ---- the trees of all zones

module _ (config : Config) (trees : List ZoneTree) (have : HaveZonesOf config trees) where
  -- what is told of some tree's zone is told of some zone of the configuration
  some_told : (P : Zone → Type 0) → SomeItem (λ tree. P tree.zone) trees ↔ SomeItem P (zones config)
  some_told P =
      let seen = some_seen (λ (tree : ZoneTree). tree.zone) P trees in (
        λ some. let (zone, has, p) = seen.0 some in (zone, (have zone).0 has, p),
        λ (zone, has, p). seen.1 (zone, (have zone).1 has, p),
      )

  -- the base names of the trees' zones are those of the configuration
  pub trees_names : (name : Labels) → SomeItem (λ tree. IsInZone name tree.zone) trees ↔ IsInConfig name config
  trees_names name = some_told (IsInZone name)

  -- and so are the redirections
  pub trees_pairs : (pair : Redirection) → SomeItem (λ tree. Contains (zone_redirections tree.zone) pair) trees ↔ Contains (redirections_of config) pair
  trees_pairs pair =
      let told = some_told (λ (zone : Zone). Contains (zone_redirections zone) pair) in
      let flat = some_flat zone_redirections (zones config) pair in
      let all = base_redirections config pair in (
        λ some. all.0 (flat.0 (told.0 some)),
        λ has. told.1 (flat.1 (all.1 has)),
      )

  -- the records of each tree's zone lie within it
  pub trees_within : AreConsistent config.servers → All (λ tree. KeepsWithin tree.zone) trees
  trees_within consistent =
      all_from_contains (λ (tree : ZoneTree). KeepsWithin tree.zone) trees
      (λ tree has.
      let (server, among, inside) = from_flat_map (λ (s : Server). s.zones) config.servers tree.zone
      ((have tree.zone).0 (map_has (λ (one : ZoneTree). one.zone) trees tree has)) in
      (consistent.each server among).within tree.zone inside)

-- ---- several configurations

-- a configuration behind a reference
abbrev pub config_of : Bor Config → Config
config_of hosts = hosts.now

-- the root, the base names of the configurations and the fronts of the given names, with the redirections, are their joined
-- ground
pub joined_base : (all : List (Bor Config)) (more : List (Bor Labels)) (root first names : List Labels) (none pairs dnames : List Pair)
    → root ≡ [] ∷ [] → none ≡ [] → dnames ≡ pairs
    → ((name : Labels) → Contains first name ↔ (Contains root name ⊎ SomeItem (λ (hosts : Bor Config). IsInConfig name hosts.now) all))
    → ((name : Labels) → Contains names name ↔ (Contains first name ⊎ SomeItem (λ (one : Bor Labels). IsPrefixFrom 0 one.now name) more))
    → ((pair : Redirection) → Contains (map redirection pairs) pair
    ↔ (Contains (map redirection none) pair ⊎ SomeItem (λ (hosts : Bor Config). Contains (redirections_of hosts.now) pair) all))
    → AreSame (ground_with names dnames) (joined_ground (map config_of all) (map (λ (one : Bor Labels). one.now) more))
joined_base all more root first names none pairs dnames root_is none_is dnames_are of_configs of_names of_pairs =
    same_as_joined (map config_of all) (map (λ (one : Bor Labels). one.now) more) (ground_with names dnames)
    (λ name. in_turn config_of all more name (Contains ([] ∷ []) name) (Contains first name) (Contains names name) (Contains names name)
    (subst (λ (l : List Labels). Contains first name ↔ (Contains l name ⊎ SomeItem (λ (hosts : Bor Config). IsInConfig name hosts.now) all))
    root_is (of_configs name)) (of_names name) (λ has. has, λ has. has))
    (λ pair. from_nothing config_of all pair (Contains (map redirection none) pair) (Contains (map redirection dnames) pair)
    (λ has. none_in_nil pair (subst (λ (l : List Pair). Contains (map redirection l) pair) none_is has))
    (subst (λ (l : List Pair). Contains (map redirection l) pair
    ↔ (Contains (map redirection none) pair ⊎ SomeItem (λ (hosts : Bor Config). Contains (redirections_of hosts.now) pair) all))
    (sym dnames_are) (of_pairs pair)))
