-- The scope of a base name: the base names of its configuration tell its names apart, for the name adds none to them. A
-- name that exists in a zone is a base name.
use Rattle.std.proofs.Common.{◌≡◌, ◌↔◌, ◌∙◌, ◌&&◌, Bool, true, false, [], ◌∷◌, ◌++◌, flat_map, Contains, Option, None, Some, refl, sym, subst, append-nil, inl, inr, true≢false}
use Rattle.std.specs.Prelude.{IsNone, is_some}
use Rattle.std.specs.List.{list_any}
use Rattle.std.proofs.lemmas.Bool.{and_parts, or_cases}
use Rattle.std.proofs.lemmas.List.Elements.{Contains-append_left, Contains-append_cases}
use Rattle.dns_data.specs.Name.{Labels, name_eq, is_prefix}
use Rattle.dns_data.specs.declared.rdata.Rr.{Rr}
use Rattle.dns_data.proofs.Membership.{none_in_nil, first_or_later}
use Rattle.dns_data.proofs.NameFronts.{Begins, is_prefix_tells}
use Rattle.dns_data.proofs.Names.{name_eq_decides}
use Rattle.dns_data.proofs.Searches.{from_any}
use Rattle.label_graph.specs.Pairs.{AreSame}
use Rattle.net_model.specs.declared.config.Config.{Config}
use Rattle.net_model.specs.declared.config.Zone.{Zone}
use Rattle.net_model.specs.Nearest.{nearest_of}
use Rattle.net_model.specs.Reading.{Ground, zones, origins_and_owners, ground_of, joined_ground}
use Rattle.net_model.specs.Zone.{exists_in}
use Rattle.net_model.proofs.JoinedNames.{alone_is_own, front_is_base, base_is_front, root_is_base, above_is_base}
use Rattle.net_model.proofs.NearestZones.{nearest_tells, origin_of_config, owner_of_config}
use Rattle.job_scope.specs.Scoped.{widened}

-- what a search finds that finds nothing exactly where there is nothing
pub exists_where_found : {T : Type 0} (found : Option T) (exists : Bool) → IsNone found ↔ (exists ≡ false) → is_some found ≡ true → exists ≡ true
exists_where_found None exists none is = cc
exists_where_found (Some there) true none is = refl
exists_where_found (Some there) false none is = absurd (true≢false (none.1 refl))

-- the ground of a configuration joined with no name
abbrev alone : Config → Ground
alone config = joined_ground (config ∷ []) []

module _ (config : Config) (name : Labels) where
  -- what begins an origin or an owner of the configuration is a base name
  front_of_own : (start : Labels) → Contains (origins_and_owners config) start → Begins name start → Contains (ground_of config).names name
  front_of_own start has begins =
      subst (λ (ground : Ground). Contains ground.names name) (alone_is_own config)
      (front_is_base (config ∷ []) [] start name
      (Contains-append_left (flat_map origins_and_owners (config ∷ [])) [] start (Contains-append_left (origins_and_owners config) [] start has)) begins)

  -- a name that exists in a zone of the configuration is a base name
  existing_is_base : (zone : Zone) → Contains (zones config) zone → exists_in zone name ≡ true → Contains (ground_of config).names name
  existing_is_base zone has exists =
      elim (or_cases (name_eq name zone.origin) (is_prefix zone.origin name && list_any (λ (rr : Rr). is_prefix name rr.owner) zone.rrs) exists) [
        | inl origin ↦ front_of_own zone.origin (origin_of_config config zone has) ([], append-nil name ∙ (name_eq_decides name zone.origin).0 origin)
        | inr beneath ↦ (
            let (rr, among, front) =
            from_any (λ (rr : Rr). is_prefix name rr.owner) zone.rrs (and_parts (is_prefix zone.origin name) (list_any (λ (rr : Rr). is_prefix name rr.owner) zone.rrs) beneath).1 in
            front_of_own rr.owner (owner_of_config config zone rr has among) (is_prefix_tells name rr.owner front))
      ]

  -- a name that exists in the zone in which a server looks it up is a base name
  pub looked_up_is_base : (server : Labels) (zone : Zone) → nearest_of config server name ≡ Some zone → exists_in zone name ≡ true → Contains (ground_of config).names name
  looked_up_is_base server zone is exists = existing_is_base zone (nearest_tells config server name zone is).0 exists

  module _ (has : Contains (ground_of config).names name) where
    has_alone : Contains (alone config).names name
    has_alone = subst (λ (ground : Ground). Contains ground.names name) (sym (alone_is_own config)) has

    -- what begins an origin or owner, or the name, is a base name already
    from_widened : (other : Labels) → Contains (widened config name).names other → Contains (alone config).names other
    from_widened other among =
        elim (base_is_front (config ∷ []) (name ∷ []) other among) [
          | inl root ↦ subst (Contains (alone config).names) root (root_is_base (config ∷ []) [])
          | inr (start, there, begins) ↦ elim (Contains-append_cases (flat_map origins_and_owners (config ∷ [])) (name ∷ []) start there) [
            | inl own ↦ front_is_base (config ∷ []) [] start other (Contains-append_left (flat_map origins_and_owners (config ∷ [])) [] start own) begins
            | inr given ↦ elim (first_or_later name [] start given) [
              | inl same ↦ (
                  let (below, e) = begins in
                  above_is_base (config ∷ []) [] other below (subst (Contains (alone config).names) (same ∙ sym e) has_alone))
              | inr later ↦ absurd (none_in_nil start later)
            ]
          ]
        ]

    -- a base name stays one where the name is added
    into_widened : (other : Labels) → Contains (alone config).names other → Contains (widened config name).names other
    into_widened other among =
        elim (base_is_front (config ∷ []) [] other among) [
          | inl root ↦ subst (Contains (widened config name).names) root (root_is_base (config ∷ []) (name ∷ []))
          | inr (start, there, begins) ↦ elim (Contains-append_cases (flat_map origins_and_owners (config ∷ [])) [] start there) [
            | inl own ↦ front_is_base (config ∷ []) (name ∷ []) start other (Contains-append_left (flat_map origins_and_owners (config ∷ [])) (name ∷ []) start own) begins
            | inr none ↦ absurd (none_in_nil start none)
          ]
        ]

    -- the ground of the scope of a base name has the names and the redirections of the configuration's own
    pub widened_by_base : AreSame (widened config name) (ground_of config)
    widened_by_base =
        subst (AreSame (widened config name)) (alone_is_own config)
        (record {
          names = λ other. (from_widened other, into_widened other);
          redirections = λ redirection. (λ among. among, λ among. among);
        })
