-- A walk that is begun. The contracts of inner calls alone cite it.
use Rattle.std.specs.Prelude.{ℕ, ◌-◌, List, ◌++◌, length, Option, Some, None}
use Rattle.std.specs.Option.{option_to_list}
use Rattle.std.proofs.Common.{arith}
use Rattle.dns_data.specs.Name.{Labels}
use Rattle.dns_data.specs.declared.rr_type.RrType.{RrType}
use Rattle.net_model.specs.declared.walk.Hop.{Hop}
use Rattle.net_model.specs.declared.walk.Leaf.{Leaf}
use Rattle.net_model.specs.declared.walk.State.{State}
use Rattle.net_model.specs.declared.walk.Walk.{Walk}
use Rattle.net_model.specs.Step.{Setting}
use Rattle.net_model.proofs.AllWalks.{walks_within}
use Rattle.net_model.proofs.RoundsExist.{Settles, query_settles, settles}
use Rattle.plain_resolver.specs.Asked.{Asked}
use Rattle.plain_resolver.specs.FromServer.{asked_at}

-- the states and hops so far
pub record Begun : Type 0 where
  pub states : List State
  pub hops : List Hop

-- a walk with these before it
abbrev pub led_along : Begun → Walk → Walk
led_along begun walk = record { states = begun.states ++ walk.states; hops = begun.hops ++ walk.hops; leaf = walk.leaf }

-- the walk that it is with an end, to which a hop may lead
abbrev pub ended : Begun → Option Hop → Leaf → Walk
ended begun hop leaf = record { states = begun.states; hops = begun.hops ++ option_to_list hop; leaf = leaf }

-- the walks of a name that a server is asked for have no more states than some number
abbrev pub server_settles : (setting : Setting) (rtype : RrType) (server name : Labels) → Settles setting rtype (asked_at setting server name)
server_settles setting rtype server name = settles setting rtype (asked_at setting server name) (λ zone nearest. omega arith)

-- how many states the walks have at most
abbrev pub most_states : Setting → RrType → Labels → Option Labels → ℕ
most_states setting rtype query None = (query_settles setting rtype query).0
most_states setting rtype query (Some server) = (server_settles setting rtype server query).0

-- how many states may still come
abbrev pub states_left : Asked → Begun → ℕ
states_left asked begun = most_states asked.setting asked.rtype asked.query asked.server - length begun.states

-- the walks from a state that have no more states than may still come
abbrev pub walks_on : Asked → Begun → State → List Walk
walks_on asked begun state = walks_within (states_left asked begun) asked.setting asked.rtype state
