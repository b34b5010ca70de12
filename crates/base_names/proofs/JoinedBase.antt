-- The names that fronts of origins, owners and given names are, and the ground of several configurations with some names
-- more.
use Rattle.std.proofs.Common.{◌≡◌, ◌∙◌, ◌⊎◌, Bor, [], ◌∷◌, ◌++◌, length, take, drop, map, Contains, inl, inr, refl, sym, ap, subst, List, arith}
use Rattle.std.specs.Prelude.{◌↔◌}
use Rattle.std.specs.List.{flat_map}
use Rattle.std.proofs.lemmas.List.{take_at, take-append-drop, length-append}
use Rattle.std.proofs.lemmas.List.Elements.{Contains-append_left, Contains-append_right, Contains-append_cases}
use Rattle.dns_data.specs.Name.{Labels}
use Rattle.dns_data.specs.declared.rdata.Rr.{Rr}
use Rattle.dns_data.proofs.Membership.{none_in_nil, has_first, first_or_later, map_has, from_map, flat_map_has, from_flat_map}
use Rattle.dns_data.proofs.NameFronts.{Begins}
use Rattle.net_model.specs.declared.config.Config.{Config}
use Rattle.net_model.specs.declared.config.Zone.{Zone}
use Rattle.net_model.specs.Reading.{Ground, Redirection, redirection_of, redirections_of, zones, records, origins_and_owners, joined_ground}
use Rattle.net_model.proofs.JoinedNames.{front_is_base, base_is_front, root_is_base}
use Rattle.base_names.specs.Base.{IsInConfig, zone_redirections}
use Rattle.label_graph.specs.Graphs.{SomeItem}
use Rattle.label_graph.specs.LiveSet.{HavePrefixes}
use Rattle.label_graph.specs.Pairs.{redirection, AreSame}
use Rattle.label_graph.specs.Targets.{IsPrefixFrom}
use Rattle.label_graph.proofs.Passing.{some_seen, some_flat}

-- a front of a name begins it
pub front_begins : (name front : Labels) → IsPrefixFrom 0 name front → Begins front name
front_begins name front (count, low, high, is) =
    (drop count name, ap (λ (n : Labels). n ++ drop count name) is ∙ take-append-drop count name)

-- a name that begins another is a front of it
pub begins_front : (name front : Labels) → Begins front name → IsPrefixFrom 0 name front
begins_front name front (below, e) = (
  length front,
  omega arith,
  omega (arith, ap (λ (n : Labels). length n) e, length-append front below),
  sym (take_at front below (length front) refl) ∙ ap (take (length front)) e,
)

-- the name is a front of one of the names of the list
abbrev pub IsFrontOf : Labels → List Labels → Type 0
IsFrontOf name others = SomeItem (λ other. IsPrefixFrom 0 other name) others

module _ (config : Config) (name : Labels) where
  -- the fronts of a configuration's origins and owners, zone by zone
  of_zones : IsInConfig name config → IsFrontOf name (origins_and_owners config)
  of_zones (zone, has_zone, inl front) = (
    zone.origin,
    Contains-append_left (map (λ (z : Zone). z.origin) (zones config)) (map (λ (r : Rr). r.owner) (records config)) zone.origin
        (map_has (λ (z : Zone). z.origin) (zones config) zone has_zone),
    front,
  )
  of_zones (zone, has_zone, inr (rr, has_rr, front)) =
      let there : Contains (records config) rr = flat_map_has (λ (z : Zone). z.rrs) (zones config) zone rr has_zone has_rr in (
        rr.owner,
        Contains-append_right (map (λ (z : Zone). z.origin) (zones config)) (map (λ (r : Rr). r.owner) (records config)) rr.owner
            (map_has (λ (r : Rr). r.owner) (records config) rr there),
        front,
      )

  in_zones : IsFrontOf name (origins_and_owners config) → IsInConfig name config
  in_zones (start, among, front) =
      elim (Contains-append_cases (map (λ (z : Zone). z.origin) (zones config)) (map (λ (r : Rr). r.owner) (records config)) start among) [
        | inl origin ↦ (
            let (zone, has_zone, is) = from_map (λ (z : Zone). z.origin) (zones config) start origin in
            (zone, has_zone, inl (subst (λ (n : Labels). IsPrefixFrom 0 n name) (sym is) front)))
        | inr own ↦ (
            let (rr, has_rr, is) = from_map (λ (r : Rr). r.owner) (records config) start own in
            let (zone, has_zone, within) = from_flat_map (λ (z : Zone). z.rrs) (zones config) rr has_rr in
            (zone, has_zone, inr (rr, within, subst (λ (n : Labels). IsPrefixFrom 0 n name) (sym is) front)))
      ]

-- the root, the fronts of the configurations' origins and owners and those of the given names are the base names
pub joined_names : (configs : List Config) (given : List Labels) (name : Labels)
    → ((Contains ([] ∷ []) name ⊎ SomeItem (IsInConfig name) configs) ⊎ IsFrontOf name given) ↔ Contains (joined_ground configs given).names name
joined_names configs given name = (there, back) where
  there : (Contains ([] ∷ []) name ⊎ SomeItem (IsInConfig name) configs) ⊎ IsFrontOf name given → Contains (joined_ground configs given).names name
  there (inl (inl root)) =
      elim (first_or_later [] [] name root) [
        | inl same ↦ subst (Contains (joined_ground configs given).names) same (root_is_base configs given)
        | inr none ↦ absurd (none_in_nil name none)
      ]
  there (inl (inr (config, has, inside))) =
      let (start, among, front) = of_zones config name inside in
      front_is_base configs given start name
      (Contains-append_left (flat_map origins_and_owners configs) given start (flat_map_has origins_and_owners configs config start has among))
      (front_begins start name front)
  there (inr (start, among, front)) =
      front_is_base configs given start name (Contains-append_right (flat_map origins_and_owners configs) given start among) (front_begins start name front)

  back : Contains (joined_ground configs given).names name → (Contains ([] ∷ []) name ⊎ SomeItem (IsInConfig name) configs) ⊎ IsFrontOf name given
  back has =
      elim (base_is_front configs given name has) [
        | inl root ↦ inl (inl (subst (Contains ([] ∷ [])) root (has_first [] [])))
        | inr (start, among, begins) ↦ elim (Contains-append_cases (flat_map origins_and_owners configs) given start among) [
          | inl of_configs ↦ (
              let (config, here, own) = from_flat_map origins_and_owners configs start of_configs in
              inl (inr (config, here, in_zones config name (start, own, begins_front start name begins))))
          | inr of_given ↦ inr (start, of_given, begins_front start name begins)
        ]
      ]

-- a ground with the root, the fronts of origins, owners and given names, and the configurations' redirections, is the
-- joined ground
pub same_as_joined : (configs : List Config) (given : List Labels) (base : Ground)
    → ((name : Labels) → Contains base.names name ↔ ((Contains ([] ∷ []) name ⊎ SomeItem (IsInConfig name) configs) ⊎ IsFrontOf name given))
    → ((pair : Redirection) → Contains base.redirections pair ↔ SomeItem (λ config. Contains (redirections_of config) pair) configs)
    → AreSame base (joined_ground configs given)
same_as_joined configs given base names redirections =
    record {
      names = λ name. (
        λ has. (joined_names configs given name).0 ((names name).0 has),
        λ has. (names name).1 ((joined_names configs given name).1 has),
      );
      redirections = λ pair. (
        λ has. (some_flat redirections_of configs pair).0 ((redirections pair).0 has),
        λ has. (redirections pair).1 ((some_flat redirections_of configs pair).1 has),
      );
    }

-- ---- names that are put in turn: the root, those of the configurations and the given ones

-- only the root begins the root
nothing_above : (above below : Labels) → [] ≡ above ++ below → [] ≡ above
nothing_above [] below e = refl
nothing_above (label ∷ above) below e = absurd cc

-- the list of the root alone has the prefixes of its names
pub root_alone : HavePrefixes ([] ∷ [])
root_alone =
    record {
      root = has_first [] [];
      prefixes = λ above below has. elim (first_or_later [] [] (above ++ below) has) [
        | inl same ↦ subst (Contains ([] ∷ [])) (nothing_above above below same) (has_first [] [])
        | inr none ↦ absurd (none_in_nil (above ++ below) none)
      ];
    }

module _ {X : Type 0} (config_of : X → Config) (configs : List X) where
  -- the root, then the fronts of the configurations' names, then those of the given ones
  pub in_turn : (more : List (Bor Labels)) (name : Labels) (root first all sorted : Type 0)
      → (first ↔ (root ⊎ SomeItem (λ (x : X). IsInConfig name (config_of x)) configs))
      → (all ↔ (first ⊎ SomeItem (λ (one : Bor Labels). IsPrefixFrom 0 one.now name) more)) → (sorted ↔ all)
      → sorted ↔ ((root ⊎ SomeItem (IsInConfig name) (map config_of configs)) ⊎ IsFrontOf name (map (λ (one : Bor Labels). one.now) more))
  in_turn more name root first all sorted of_configs of_names same =
      let seen = some_seen config_of (IsInConfig name) configs in
      let given = some_seen (λ (one : Bor Labels). one.now) (λ (other : Labels). IsPrefixFrom 0 other name) more in (
        λ has. elim (of_names.0 (same.0 has)) [
          | inl old ↦ inl (elim (of_configs.0 old) [ inl r ↦ inl r | inr some ↦ inr (seen.0 some) ])
          | inr some ↦ inr (given.0 some)
        ],
        λ either. same.1 (of_names.1 (elim either [
          | inl old ↦ inl (of_configs.1 (elim old [ inl r ↦ inl r | inr some ↦ inr (seen.1 some) ]))
          | inr some ↦ inr (given.1 some)
        ])),
      )

  -- the redirections put into an empty list are those of the configurations
  pub from_nothing : (pair : Redirection) (none there : Type 0) → (none → ⊥)
      → (there ↔ (none ⊎ SomeItem (λ (x : X). Contains (redirections_of (config_of x)) pair) configs))
      → there ↔ SomeItem (λ config. Contains (redirections_of config) pair) (map config_of configs)
  from_nothing pair none there never put =
      let seen = some_seen config_of (λ (config : Config). Contains (redirections_of config) pair) configs in (
        λ has. elim (put.0 has) [ inl nothing ↦ absurd (never nothing) | inr some ↦ seen.0 some ],
        λ some. put.1 (inr (seen.1 some)),
      )

-- the redirections of all zones are those of the configuration
pub base_redirections : (config : Config) (redirection : Redirection)
    → Contains (flat_map zone_redirections (zones config)) redirection ↔ Contains (redirections_of config) redirection
base_redirections config redirection = (
  λ has. let (zone, has_zone, in_zone) = from_flat_map zone_redirections (zones config) redirection has in
      let (rr, has_rr, is) = from_flat_map (λ (r : Rr). redirection_of r.owner r.rdata) zone.rrs redirection in_zone in
      flat_map_has (λ (r : Rr). redirection_of r.owner r.rdata) (records config) rr redirection
      (flat_map_has (λ (z : Zone). z.rrs) (zones config) zone rr has_zone has_rr) is,
  λ has. let (rr, has_rr, is) = from_flat_map (λ (r : Rr). redirection_of r.owner r.rdata) (records config) redirection has in
      let (zone, has_zone, within) = from_flat_map (λ (z : Zone). z.rrs) (zones config) rr has_rr in
      flat_map_has zone_redirections (zones config) zone redirection has_zone
      (flat_map_has (λ (r : Rr). redirection_of r.owner r.rdata) zone.rrs rr redirection within is),
)
