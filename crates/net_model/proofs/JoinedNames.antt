-- The base names of a joined ground: the root, and what begins an origin, an owner or a given name. They have their
-- prefixes, and the owners of all redirections. A configuration's own ground is the joined ground of it alone.
use Rattle.std.proofs.Common.{◌≡◌, ◌∙◌, ◌⊎◌, List, [], ◌∷◌, ◌++◌, map, flat_map, Contains, sym, ap, ap₂, subst, append_assoc, append-nil, inl, inr}
use Rattle.std.proofs.lemmas.List.Elements.{Contains-append_left, Contains-append_right}
use Rattle.dns_data.specs.Name.{Labels}
use Rattle.dns_data.specs.declared.rdata.Rdata.{Rdata}
use Rattle.dns_data.specs.declared.rdata.Rdata.TheVariants.{Dname}
use Rattle.dns_data.specs.declared.rdata.Rr.{Rr}
use Rattle.dns_data.proofs.Membership.{none_in_nil, has_first, has_later, first_or_later, map_has, flat_map_has, from_flat_map}
use Rattle.dns_data.proofs.NameFronts.{Begins}
use Rattle.net_model.specs.declared.config.Config.{Config}
use Rattle.net_model.specs.declared.config.Zone.{Zone}
use Rattle.net_model.specs.Prefix.{prefixes}
use Rattle.net_model.specs.Reading.{Ground, Redirection, zones, records, origins_and_owners, redirection_of, redirections_of, ground_of, joined_ground}
use Rattle.net_model.proofs.Prefixes.{prefixes_have, from_prefixes}

-- the owner of a record's redirection is the record's
pub owner_is : (owner : Labels) (rdata : Rdata) (redirection : Redirection) → Contains (redirection_of owner rdata) redirection → redirection.owner ≡ owner
owner_is owner (Dname target) redirection has = elim (first_or_later (record { owner = owner; target = target }) [] redirection has) [
  | inl same ↦ ap (λ (r : Redirection). r.owner) (sym same)
  | inr later ↦ absurd (none_in_nil redirection later)
]
owner_is owner other redirection has = absurd (none_in_nil redirection has)

module _ (configs : List Config) (given : List Labels) where
  -- the origins and owners of the configurations, and the given names
  abbrev pub starts : List Labels
  starts = flat_map origins_and_owners configs ++ given

  -- a name that begins an origin, an owner or a given name is a base name of the joined ground
  pub front_is_base : (start name : Labels) → Contains starts start → Begins name start → Contains (joined_ground configs given).names name
  front_is_base start name has begins =
      has_later [] (flat_map prefixes starts) name (flat_map_has prefixes starts start name has (prefixes_have start name begins))

  -- a base name of the joined ground is the root or begins an origin, an owner or a given name
  pub base_is_front : (name : Labels) → Contains (joined_ground configs given).names name
      → ([] ≡ name) ⊎ ((start : Labels) × Contains starts start × Begins name start)
  base_is_front name has =
      elim (first_or_later [] (flat_map prefixes starts) name has) [
        | inl root ↦ inl root
        | inr later ↦ (
            let (start, among, front) = from_flat_map prefixes starts name later in
            inr (start, among, from_prefixes start name front))
      ]

  -- the root is a base name of the joined ground
  pub root_is_base : Contains (joined_ground configs given).names []
  root_is_base = has_first [] (flat_map prefixes starts)

  -- the prefixes of a base name of the joined ground are base names
  pub above_is_base : (above below : Labels) → Contains (joined_ground configs given).names (above ++ below)
      → Contains (joined_ground configs given).names above
  above_is_base above below has =
      elim (base_is_front (above ++ below) has) [
        | inl root ↦ of_root above root
        | inr (start, among, (rest, e)) ↦ front_is_base start above among (below ++ rest, sym (append_assoc above below rest) ∙ e)
      ]
    where
      of_root : (name : Labels) → [] ≡ name ++ below → Contains (joined_ground configs given).names name
      of_root [] e = root_is_base
      of_root (label ∷ rest) e = absurd cc

  -- each origin and owner of one of the configurations is a base name of the joined ground
  pub start_is_base : (config : Config) → Contains configs config → (name : Labels) → Contains (origins_and_owners config) name
      → Contains (joined_ground configs given).names name
  start_is_base config has name there =
      front_is_base name name
      (Contains-append_left (flat_map origins_and_owners configs) given name (flat_map_has origins_and_owners configs config name has there))
      ([], append-nil name)

  -- the owner of each redirection of the configurations is a base name of the joined ground
  pub owner_is_base : (redirection : Redirection) → Contains (flat_map redirections_of configs) redirection
      → Contains (joined_ground configs given).names redirection.owner
  owner_is_base redirection has =
      let (config, among, of) = from_flat_map redirections_of configs redirection has in
      let (rr, there, is) = from_flat_map (λ (r : Rr). redirection_of r.owner r.rdata) (records config) redirection of in
      start_is_base config among redirection.owner
      (Contains-append_right (map (λ (zone : Zone). zone.origin) (zones config)) (map (λ (r : Rr). r.owner) (records config)) redirection.owner
      (subst (Contains (map (λ (r : Rr). r.owner) (records config))) (sym (owner_is rr.owner rr.rdata redirection is))
      (map_has (λ (r : Rr). r.owner) (records config) rr there)))

-- the root with the prefixes of names, and redirections
abbrev ground_from : List Labels → List Redirection → Ground
ground_from names redirections = record { names = [] ∷ flat_map prefixes names; redirections = redirections }

-- the ground of one configuration joined with nothing is its own
pub alone_is_own : (config : Config) → joined_ground (config ∷ []) [] ≡ ground_of config
alone_is_own config =
    ap₂ ground_from (append-nil (origins_and_owners config ++ []) ∙ append-nil (origins_and_owners config)) (append-nil (redirections_of config))
