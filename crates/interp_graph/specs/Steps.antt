-- What a state leads to, for some types at once. The contracts of inner calls alone cite it.
use Rattle.std.specs.Prelude.{◌≡◌, Bool, true, false, List, map, Option, Some, None, option_map, Contains}
use Rattle.dns_data.specs.TypeSet.{has_bit}
use Rattle.dns_data.specs.declared.rr_type.RrType.{RrType}
use Rattle.dns_data.specs.declared.rr_type.RrType.TheVariants as rr
use Rattle.net_model.specs.Nearest.{nearest_of}
use Rattle.net_model.specs.Step.{Setting, Go, next}
use Rattle.net_model.specs.declared.config.Config.{Config}
use Rattle.net_model.specs.declared.walk.Hop.{Hop}
use Rattle.net_model.specs.declared.walk.State.{State}
use Rattle.zone_lookup.specs.Alike.{AreSplit}
use Rattle.zone_lookup.specs.Steps.{branch_of}
use Rattle.zone_lookup.specs.declared.reply.Reply.{Reply}
use Rattle.zone_lookup.specs.declared.reply.Reply.TheVariants.{Alias}
use Rattle.interp_graph.specs.Listed.{every}
use Rattle.interp_graph.specs.declared.step.Fork.{Fork}

-- the steps of a fork are those of the state for each of its types
abbrev pub IsFork : Setting → State → Fork → Type 0
IsFork setting state fork =
    (rtype : RrType) → has_bit fork.types rtype ≡ true → map branch_of fork.steps ≡ next setting rtype state

-- the types of a fork
abbrev pub types_of : Fork → List Bool
types_of fork = fork.types

-- the forks are apart in their types, have together these types, and tell the state's steps
pub record AreForks (setting : Setting) (state : State) (among : RrType → Bool) (forks : List Fork) : Type 0 where
  pub split : AreSplit among (map types_of forks)
  pub tell : (fork : Fork) → Contains forks fork → IsFork setting state fork

-- the state has the origin of the zone in which its server looks its name up, or none where that holds no zone for the name
abbrev pub IsLocated : Config → State → Type 0
IsLocated config state = state.zone ≡ option_map (λ zone. zone.origin) (nearest_of config state.server state.name)

-- so have all of these states
abbrev pub AreLocated : Config → List State → Type 0
AreLocated config states = (state : State) → Contains states state → IsLocated config state

-- ---- the first turn

-- the server replies that the name is an alias
abbrev pub is_alias : Reply → Bool
is_alias (Alias tree owner target) = true
is_alias other = false

-- where walks go on from the state with one type, they go on alike with each
abbrev pub AllAlike : Setting → State → Type 0
AllAlike setting state =
    (some rtype : RrType) (hop : Hop) (to : State) → Contains (next setting some state) (Go hop to) → Contains (next setting rtype state) (Go hop to)

-- walks of type CNAME end at the state
abbrev pub CnameEnds : Setting → State → Type 0
CnameEnds setting state = (hop : Hop) (to : State) → Contains (next setting rr.Cname state) (Go hop to) → ⊥

-- the forks of a state for all types, with which walks go on alike; or none where those of type CNAME end
abbrev pub AreForksOrAlias : Setting → State → Option (List Fork) → Type 0
AreForksOrAlias setting state (Some forks) = AreForks setting state every forks × AllAlike setting state
AreForksOrAlias setting state None = CnameEnds setting state
