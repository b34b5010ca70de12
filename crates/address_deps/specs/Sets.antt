-- The searches for the two sets of learnt addresses. The contracts of inner calls alone cite it.
use Rattle.std.specs.Prelude.{◌≡◌, ℕ, true, not, List, Some, Contains, slice_get}
use Rattle.std.specs.List.{sum_by}
use Rattle.dns_data.specs.Name.{Labels, is_among}
use Rattle.net_model.specs.declared.config.Config.{Config}
use Rattle.net_model.specs.declared.config.Server.{Server}
use Rattle.net_model.specs.Learnt.{IsGreatest, IsLeast, Learns}
use Rattle.net_model.specs.Nearest.{server_names}
use Rattle.net_model.specs.Step.{following}
use Rattle.address_deps.specs.Giving.{unset}
use Rattle.address_deps.specs.Addresses.{AreServers, AreAddresses}
use Rattle.address_deps.specs.declared.addresses.AddressLearnt.{AddressLearnt}

-- how many servers aren't in the list
abbrev pub absent : List Server → List Labels → ℕ
absent servers names = sum_by (λ server. unset (is_among names server.name)) servers

-- how many servers are in the list
abbrev pub present : List Server → List Labels → ℕ
present servers names = sum_by (λ server. unset (not (is_among names server.name))) servers

-- each name of the one list is in the other
abbrev pub Within : List Labels → List Labels → Type 0
Within few more = (name : Labels) → Contains few name → Contains more name

-- the names are in the least set
abbrev pub AreBelow : Config → ℕ → List Labels → Type 0
AreBelow config rewrites followed = (learnt : List Labels) → IsLeast config rewrites learnt → Within followed learnt

-- the greatest set is among the names
abbrev pub AreAbove : Config → ℕ → List Labels → Type 0
AreAbove config rewrites followed = (learnt : List Labels) → IsGreatest config rewrites learnt → Within learnt followed

-- The search for the least set: each name that was added is in it.
pub record IsGrowing (config : Config) (addresses : List AddressLearnt) (learnt : List Labels) : Type 0 where
  pub servers : AreServers config learnt
  pub below : (rewrites : ℕ) → AreAddresses config rewrites addresses → AreBelow config rewrites learnt

-- no server more can be learnt
abbrev pub NoneMoreLearnt : Config → List AddressLearnt → List Labels → Type 0
NoneMoreLearnt config addresses learnt =
    (rewrites : ℕ) → AreAddresses config rewrites addresses → (name : Labels) → Contains (server_names config) name
    → Learns (following config rewrites learnt) name → is_among learnt name ≡ true

-- The search for the greatest set: it is among the names that are left.
pub record IsShrinking (config : Config) (addresses : List AddressLearnt) (known : List Labels) : Type 0 where
  pub servers : AreServers config known
  pub above : (rewrites : ℕ) → AreAddresses config rewrites addresses → AreAbove config rewrites known

-- the address of each server of the list can be learnt while the servers of the list are followed
abbrev pub AreLearnt : Config → List AddressLearnt → List Labels → Type 0
AreLearnt config addresses known =
    (rewrites : ℕ) → AreAddresses config rewrites addresses → (name : Labels) → Contains (server_names config) name
    → is_among known name ≡ true → Learns (following config rewrites known) name

-- the server at the place is in the list, or can't be learnt
abbrev pub NoneMoreLearntAt : Config → List AddressLearnt → List Labels → ℕ → Type 0
NoneMoreLearntAt config addresses names place =
    (rewrites : ℕ) (server : Server) → AreAddresses config rewrites addresses → slice_get config.servers place ≡ Some server
    → Learns (following config rewrites names) server.name → is_among names server.name ≡ true

-- the server at the place isn't in the list, or can be learnt
abbrev pub IsLearntAt : Config → List AddressLearnt → List Labels → ℕ → Type 0
IsLearntAt config addresses names place =
    (rewrites : ℕ) (server : Server) → AreAddresses config rewrites addresses → slice_get config.servers place ≡ Some server
    → is_among names server.name ≡ true → Learns (following config rewrites names) server.name
