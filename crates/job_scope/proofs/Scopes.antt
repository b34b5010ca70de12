-- Scopes as subjects of a judge: the widened ground covers the configuration and names the scope's name, so what some query
-- at or below the name shows, the representative of some class of the scope shows, and back.
use Rattle.std.proofs.Common.{◌≡◌, ◌↔◌, ℕ, [], ◌∷◌, true}
use Rattle.dns_data.specs.Name.{Labels, IsName, is_prefix}
use Rattle.dns_data.proofs.Membership.{has_first}
use Rattle.dns_data.proofs.NameFronts.{is_prefix_tells}
use Rattle.dns_data.proofs.Names.{prefix_is_name}
use Rattle.graph_form.specs.Report.{IsShown}
use Rattle.net_model.specs.declared.config.Config.{Config}
use Rattle.net_model.specs.declared.fault.Fault.{Fault}
use Rattle.net_model.specs.Class.{class_name}
use Rattle.net_model.specs.Reading.{Covers}
use Rattle.walk_laws.proofs.JoinedGround.{given_named, joined_covers}
use Rattle.query_verdicts.specs.Carried.{SomeClassShows}
use Rattle.query_verdicts.specs.Subjects.{IsCovering}
use Rattle.query_verdicts.proofs.Carrying.{shown_by_classes}
use Rattle.job_scope.specs.Scoped.{scoped, widened}

-- the widened ground covers the configuration, of which it is a joined ground
pub scope_covers : (config : Config) (name : Labels) → Covers (widened config name) config
scope_covers config name = joined_covers (config ∷ []) (name ∷ []) config (has_first config [])

-- the ground of a scope covers the configuration, and the scope's name is in its class tree
pub is_covered : (config : Config) (rewrites : ℕ) (name : Labels) → IsName name → IsCovering (scoped config rewrites name)
is_covered config rewrites name is =
    record { covers = scope_covers config name; in_tree = (given_named (config ∷ []) (name ∷ []) name (has_first name []), is) }

module _ (config : Config) (rewrites : ℕ) (name : Labels) (fault : Fault) where
  -- a name at or below which there is a name of at most 255 octets has no more itself
  is_name : (below : Labels) → IsName below → is_prefix name below ≡ true → IsName name
  is_name below is within = let (rest, e) = is_prefix_tells name below within in prefix_is_name name below rest e is

  by_classes : IsName name → IsShown (scoped config rewrites name) fault ↔ SomeClassShows (scoped config rewrites name) fault
  by_classes is = shown_by_classes (scoped config rewrites name) (is_covered config rewrites name is) fault

  -- The widened ground covers the configuration and names the scope's name (is_covered), so its representatives show what
  -- queries at or below that name show (query_verdicts' shown_by_classes).
  pub scope_law : IsShown (scoped config rewrites name) fault ↔ SomeClassShows (scoped config rewrites name) fault
  scope_law = (
    λ shown. (by_classes (is_name shown.query shown.is_name shown.within)).0 shown,
    λ (class, query, rtype, shows). (by_classes (is_name (class_name class) shows.is_class.is_name shows.is_class.within)).1 (class, query, rtype, shows),
  )
