-- Who waits for the address of a name server, and the servers that wait for another look. The contracts of inner calls
-- alone cite it.
use Rattle.std.specs.Prelude.{◌≡◌, ◌⊎◌, ◌↔◌, ◌++◌, ℕ, ◌<◌, List, [], ◌∷◌, length, Some, Contains, slice_get}
use Rattle.std.specs.BTreeMap as map
use Rattle.std.specs.List.{flat_map}
use Rattle.dns_data.specs.Listed.{places_of}
use Rattle.dns_data.specs.Name.{Labels}
use Rattle.address_deps.specs.declared.addresses.AddressLearnt.{AddressLearnt}
use Rattle.address_deps.specs.declared.addresses.AddressLearnt.TheVariants.{Known, ByPaths}
use Rattle.address_deps.specs.declared.addresses.Turn.{Turn}
use Rattle.address_deps.specs.declared.addresses.Turn.TheVariants.{Gives, Fails, Goes, Waits}

-- the name server while which is followed a path goes on by the turn
abbrev pub turn_awaits : Turn → List Labels
turn_awaits Gives = []
turn_awaits Fails = []
turn_awaits (Goes to) = []
turn_awaits (Waits to name) = name.now ∷ []

-- the name servers for whose addresses turns of a node wait
abbrev pub turns_await : List Turn → List Labels
turns_await turns = flat_map turn_awaits turns

-- the name servers for whose addresses a server waits, by what tells whether its own is learnt
abbrev pub address_awaits : AddressLearnt → List Labels
address_awaits (Known learnt) = []
address_awaits (ByPaths paths) = flat_map turns_await paths.four ++ flat_map turns_await paths.six

-- of the servers before the bound each is listed for the names of the name servers for whose addresses it waits
pub record AreDependents (addresses : List AddressLearnt) (bound : ℕ) (places : map.BTreeMap Labels (List ℕ)) : Type 0 where
  pub listed : (place : ℕ) (one : AddressLearnt) → place < bound → slice_get addresses place ≡ Some one
      → (name : Labels) → Contains (address_awaits one) name → Contains (places_of places name) place
  pub within : (name : Labels) (place : ℕ) → Contains (places_of places name) place → place < bound

-- each place is one of a server
abbrev pub AreWithin : List AddressLearnt → List ℕ → Type 0
AreWithin addresses places = (place : ℕ) → Contains places place → place < length addresses

-- the places are those below the bound
abbrev pub AreAllPlaces : ℕ → List ℕ → Type 0
AreAllPlaces bound places = (place : ℕ) → Contains places place ↔ (place < bound)

-- Between two rounds of a search: something holds of its set of names, and something else of each place that doesn't wait.
pub record IsSearchRound (Good : List Labels → Type 0) (At : List Labels → ℕ → Type 0) (addresses : List AddressLearnt) (names : List Labels) (waiting : List ℕ) : Type 0 where
  pub good : Good names
  pub others : (place : ℕ) → place < length addresses → Contains waiting place ⊎ At names place
  pub within : AreWithin addresses waiting
