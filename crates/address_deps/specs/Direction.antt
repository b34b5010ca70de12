-- A search among the servers, in either direction. The contracts of inner calls alone cite it.
use Rattle.std.specs.Prelude.{◌≡◌, ℕ, Bool, true, false, ◌||◌, ◌&&◌, not, List}
use Rattle.dns_data.specs.Name.{Labels, name_eq, is_among}
use Rattle.net_model.specs.declared.config.Config.{Config}
use Rattle.net_model.specs.declared.config.Server.{Server}
use Rattle.address_deps.specs.declared.direction.Direction.{Direction}
use Rattle.address_deps.specs.declared.direction.Direction.TheVariants.{Adding, Dropping}
use Rattle.address_deps.specs.declared.addresses.AddressLearnt.{AddressLearnt}
use Rattle.address_deps.specs.Dependents.{IsSearchRound}
use Rattle.address_deps.specs.Sets.{NoneMoreLearntAt, IsGrowing, IsLearntAt, IsShrinking, absent, present}

-- servers are added
abbrev pub adds : Direction → Bool
adds Adding = true
adds Dropping = false

-- no server was added or dropped before its time
abbrev pub IsFair : Direction → Config → List AddressLearnt → List Labels → Type 0
IsFair Adding config addresses names = IsGrowing config addresses names
IsFair Dropping config addresses names = IsShrinking config addresses names

-- the server at the place isn't to be added or dropped
abbrev pub IsSettledAt : Direction → Config → List AddressLearnt → List Labels → ℕ → Type 0
IsSettledAt Adding config addresses names place = NoneMoreLearntAt config addresses names place
IsSettledAt Dropping config addresses names place = IsLearntAt config addresses names place

-- how many servers may still be added or dropped
abbrev pub unmoved : Direction → List Server → List Labels → ℕ
unmoved Adding servers names = absent servers names
unmoved Dropping servers names = present servers names

-- the server was added or dropped
abbrev pub IsMoved : Direction → Labels → List Labels → List Labels → Type 0
IsMoved Adding server old new = (name : Labels) → is_among new name ≡ (name_eq server name || is_among old name)
IsMoved Dropping server old new = (name : Labels) → is_among new name ≡ (not (name_eq server name) && is_among old name)

-- between two rounds each server that doesn't wait is settled
abbrev pub IsRoundOf : Direction → Config → List AddressLearnt → List Labels → List ℕ → Type 0
IsRoundOf direction config addresses names waiting = IsSearchRound (IsFair direction config addresses) (IsSettledAt direction config addresses) addresses names waiting
