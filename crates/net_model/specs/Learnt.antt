-- Which name servers' addresses can be learnt, and which servers may be followed.
use Rattle.std.specs.Prelude.{◌≡◌, ◌↔◌, ◌⊎◌, ℕ, zero, suc, Bool, true, false, List, [], length, Contains}
use Rattle.std.specs.List.{filter}
use Rattle.dns_data.specs.Name.{Labels}
use Rattle.dns_data.specs.declared.rr_type.RrType.{RrType}
use Rattle.dns_data.specs.declared.rr_type.RrType.TheVariants as types
use Rattle.net_model.specs.declared.config.Config.{Config}
use Rattle.net_model.specs.declared.walk.Leaf.{Leaf}
use Rattle.net_model.specs.declared.walk.Leaf.TheVariants.{Answer, Outside, Unhosted}
use Rattle.net_model.specs.declared.walk.Walk.{Walk}
use Rattle.net_model.specs.Nearest.{server_names}
use Rattle.net_model.specs.Step.{Setting, following}
use Rattle.net_model.specs.Walk.{IsWalk}

-- the end of a walk that gives an address, or leads out of what is configured
abbrev pub gives_address : Leaf → Bool
gives_address (Answer rdata) = true
gives_address Outside = true
gives_address (Unhosted ns) = true
gives_address leaf = false

-- a walk of the name with this type gives an address
pub record LearnsBy (setting : Setting) (name : Labels) (rtype : RrType) : Type 0 where
  pub walk : Walk
  pub is_walk : IsWalk setting name rtype walk
  pub ends : gives_address walk.leaf ≡ true

-- an address of the name can be learnt while the setting's servers are followed
abbrev pub Learns : Setting → Labels → Type 0
Learns setting name = LearnsBy setting name types.A ⊎ LearnsBy setting name types.Aaaa

-- a round: of the names of the configured servers, in their order, those are learnt whose addresses can be learnt
-- while the first names are followed
pub record IsRound (config : Config) (rewrites : ℕ) (followed learnt : List Labels) : Type 0 where
  pub test : Labels → Bool
  pub tells : (name : Labels) → Contains (server_names config) name
      → (test name ≡ true) ↔ Learns (following config rewrites followed) name
  pub are : learnt ≡ filter test (server_names config)

-- the names are those after so many rounds
abbrev pub AfterRounds : Config → ℕ → ℕ → List Labels → List Labels → Type 0
AfterRounds config rewrites zero begin learnt = learnt ≡ begin
AfterRounds config rewrites (suc rounds) begin learnt =
    (between : List Labels) × AfterRounds config rewrites rounds begin between × IsRound config rewrites between learnt

-- the least set of learnt addresses: begun with no server, after as many rounds as there are servers
abbrev pub IsLeast : Config → ℕ → List Labels → Type 0
IsLeast config rewrites learnt = AfterRounds config rewrites (length config.servers) [] learnt

-- the greatest set of learnt addresses: begun with all servers
abbrev pub IsGreatest : Config → ℕ → List Labels → Type 0
IsGreatest config rewrites learnt =
    AfterRounds config rewrites (length config.servers) (server_names config) learnt

-- the name is in the least set
abbrev pub InLeast : Config → ℕ → Labels → Type 0
InLeast config rewrites name =
    (learnt : List Labels) × IsLeast config rewrites learnt × Contains learnt name

-- the name is in the greatest set
abbrev pub InGreatest : Config → ℕ → Labels → Type 0
InGreatest config rewrites name =
    (learnt : List Labels) × IsGreatest config rewrites learnt × Contains learnt name

-- the set in force: the servers that may be followed though neither a top server nor glue gives their address are those
-- of the least set
abbrev pub IsInForce : Config → ℕ → List Labels → Type 0
IsInForce config rewrites followed = IsLeast config rewrites followed
