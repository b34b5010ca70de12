-- A joined ground covers each of its configurations, and names the names that it was given. A configuration's own ground
-- covers it, for it is the joined ground of it alone.
use Rattle.std.proofs.Common.{List, [], ◌∷◌, flat_map, Contains, refl, subst, append-nil}
use Rattle.std.proofs.lemmas.List.Elements.{Contains-append_right}
use Rattle.dns_data.specs.Name.{Labels}
use Rattle.dns_data.proofs.Membership.{has_first, flat_map_has}
use Rattle.net_model.specs.declared.config.Config.{Config}
use Rattle.net_model.specs.Reading.{Ground, IsNamed, Covers, origins_and_owners, redirections_of, ground_of, joined_ground}
use Rattle.net_model.proofs.JoinedNames.{front_is_base, root_is_base, above_is_base, start_is_base, owner_is_base, alone_is_own}

module _ (configs : List Config) (names : List Labels) where
  -- the joined ground covers each of its configurations: it has the root, the origins and owners of the configuration
  -- (JoinedNames.start_is_base), the prefixes of each of its names (above_is_base), the owners of its redirections
  -- (owner_is_base), and all redirections of the configuration.
  pub joined_covers : (config : Config) → Contains configs config → Covers (joined_ground configs names) config
  joined_covers config has = record {
    root = root_is_base configs names;
    named_in_config = start_is_base configs names config has;
    redirected = owner_is_base configs names;
    prefixes = above_is_base configs names;
    dnames = λ redirection there. flat_map_has redirections_of configs config redirection has there;
  }

  -- a name that was given is a base name of the joined ground (JoinedNames.front_is_base), so the ground names it
  pub given_named : (name : Labels) → Contains names name → IsNamed (joined_ground configs names) name
  given_named name has =
      record {
        base = name;
        among =
            front_is_base configs names name name (Contains-append_right (flat_map origins_and_owners configs) names name has) ([], append-nil name);
        reads = ([], refl);
      }

-- A configuration's own ground covers it: it is the joined ground of this configuration alone, without names beside
-- (alone_is_own), and a joined ground covers each of its configurations (joined_covers).
pub own_covers : (config : Config) → Covers (ground_of config) config
own_covers config = subst (λ (ground : Ground). Covers ground config) (alone_is_own config) (joined_covers (config ∷ []) [] config (has_first config []))
