-- Where the aliases of a name lead at a server: for the contracts of inner calls alone.
use Rattle.std.specs.Prelude.{◌≡◌, ◌≤◌, ◌+◌, ℕ, false, List, length, Contains, Option, IfSome, [], option_map}
use Rattle.std.specs.Option.{option_to_list}
use Rattle.dns_data.specs.Name.{Labels}
use Rattle.dns_data.specs.RrType.{type_eq}
use Rattle.dns_data.specs.declared.rr_type.RrType.{RrType}
use Rattle.dns_data.specs.declared.rr_type.RrType.TheVariants as types
use Rattle.net_model.specs.Step.{Setting, after_lookup, next}
use Rattle.net_model.specs.declared.config.Config.{Config}
use Rattle.net_model.specs.declared.fault.Fault.{Fault}
use Rattle.net_model.specs.declared.found.Found.TheVariants as found_as
use Rattle.net_model.specs.declared.place.Place.{Place}
use Rattle.net_model.specs.declared.walk.Leaf.{Leaf}
use Rattle.net_model.specs.declared.walk.State.{State}
use Rattle.walk_laws.specs.Outcome.{outcome_of}
use Rattle.straight_walks.specs.Answers.{IsLast, last_owner, owner_leaf}
use Rattle.straight_walks.specs.Nowhere.{HasLimit, Told, alias_fault}
use Rattle.straight_walks.specs.Searching.{AnswersAlong, EndsInFault}
use Rattle.straight_walks.specs.declared.aliases.AliasEnd.{AliasEnd}
use Rattle.straight_walks.specs.declared.lent_place.AliasFault.{AliasFault}

-- the state, behind so many rewrites, is one at which its server finds an alias of this place with this target; so it does
-- with each type but CNAME
pub record IsAtAlias (config : Config) (alias : Place) (target : Labels) (used : ℕ) (setting : Setting) (rtype : RrType) (state : State) : Type 0 where
  pub config_is : setting.config ≡ config
  pub at_server : state.server ≡ alias.server
  pub used_is : state.used ≡ used
  pub other : type_eq rtype types.Cname ≡ false
  pub finds : next setting rtype state ≡ after_lookup setting state alias.zone (found_as.Rewrite false alias.owner target)

-- walks may be rewritten as often as aliases lead on, and no more often than the limit that the end tells
pub record MayFollow (end : AliasEnd) (setting : Setting) : Type 0 where
  pub enough : end.rewrites ≤ setting.rewrites
  pub limited : IfSome end.fault (HasLimit setting.rewrites)

-- from a state at an alias aliases lead to the end: to the last owner, or without one walks fail; and walks show its fault
pub record LeadsByAliases (config : Config) (alias : Place) (target : Labels) (used : ℕ) (end : AliasEnd) : Type 0 where
  pub last : IfSome end.last IsLast
  pub no_fewer : used ≤ end.rewrites
  pub along : (setting : Setting) (rtype : RrType) (state : State) → IsAtAlias config alias target used setting rtype state → MayFollow end setting
      → (leaf : Leaf) × (behind : List State) × (outcome_of leaf ≡ option_map (λ last. owner_leaf (last_owner last) rtype) end.last)
      × (length behind + used ≤ end.rewrites) × AnswersAlong setting (option_to_list (option_map alias_fault end.fault)) rtype leaf state behind
  pub shows : (setting : Setting) (rtype : RrType) (state : State) → IsAtAlias config alias target used setting rtype state → MayFollow end setting
      → (fault : Fault) → Contains (option_to_list (option_map alias_fault end.fault)) fault → EndsInFault setting rtype state fault

-- what is told of rewrites by the fault of an alias, if there is one
abbrev pub told_by_fault : Option AliasFault → Told
told_by_fault fault = record { places = []; aliases = option_to_list fault }
