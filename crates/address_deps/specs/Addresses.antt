-- What tells whether addresses of servers' names are learnt.
use Rattle.std.specs.Prelude.{◌≡◌, ◌↔◌, ◌⊎◌, ◌==◌, ◌&&◌, ◌∷◌, [], ℕ, Bool, true, false, Contains, List, Option, Some, None, length, slice_get}
use Rattle.std.specs.List.{AllZip}
use Rattle.std.specs.Option.{option_map_or}
use Rattle.dns_data.specs.Name.{Labels, is_among}
use Rattle.net_model.specs.declared.config.Config.{Config}
use Rattle.net_model.specs.Learnt.{Learns}
use Rattle.net_model.specs.Nearest.{server_names}
use Rattle.net_model.specs.Step.{following}
use Rattle.address_deps.specs.declared.addresses.AddressLearnt.{AddressLearnt}
use Rattle.address_deps.specs.declared.addresses.AddressLearnt.TheVariants.{Known, ByPaths}
use Rattle.address_deps.specs.declared.addresses.Turn.{Turn}
use Rattle.address_deps.specs.declared.addresses.Turn.TheVariants.{Gives, Fails, Goes, Waits}

-- each name of the list is a configured server's
abbrev pub AreServers : Config → List Labels → Type 0
AreServers config names = (name : Labels) → is_among names name ≡ true → is_among (server_names config) name ≡ true

-- Whether a path that takes this turn gives an address: a turn that goes on does where the rest of the path does from the
-- node to which it leads, and an end does only as the path's last turn.
abbrev pub turn_gives : List Labels → (ℕ → Bool) → Bool → Turn → Bool
turn_gives followed on is_last Gives = is_last
turn_gives followed on is_last Fails = false
turn_gives followed on is_last (Goes to) = on to
turn_gives followed on is_last (Waits to name) = is_among followed name.now && on to

-- whether the path gives an address that takes the turn with this number
abbrev pub node_gives : List Labels → (ℕ → Bool) → ℕ → Bool → Option (List Turn) → Bool
node_gives followed on number is_last None = false
node_gives followed on number is_last (Some turns) = option_map_or (turn_gives followed on is_last) (slice_get turns number) false

-- whether the path with these numbers from the node at a place gives an address while these servers are followed
abbrev pub gives_from : List Labels → List (List Turn) → List ℕ → ℕ → Bool
gives_from followed nodes [] at = false
gives_from followed nodes (number ∷ numbers) at =
    node_gives followed (gives_from followed nodes numbers) number (length numbers == 0) (slice_get nodes at)

-- a path from one of the starts gives an address
pub record PathGives (followed : List Labels) (nodes : List (List Turn)) (starts : List ℕ) : Type 0 where
  pub at : ℕ
  pub numbers : List ℕ
  pub starts_there : Contains starts at
  pub gives : gives_from followed nodes numbers at ≡ true

-- an address can be learnt while these servers are followed
abbrev pub IsLearnt : List Labels → AddressLearnt → Type 0
IsLearnt followed (Known learnt) = learnt ≡ true
IsLearnt followed (ByPaths paths) = PathGives followed paths.four paths.starts ⊎ PathGives followed paths.six paths.starts

-- the value is that of the name: whichever configured servers are followed, an address of the name can be learnt exactly
-- where it says so
abbrev pub IsAddressOf : Config → ℕ → Labels → AddressLearnt → Type 0
IsAddressOf config rewrites name address =
    (followed : List Labels) → AreServers config followed → IsLearnt followed address ↔ Learns (following config rewrites followed) name

-- the values are those of the configured servers' names, in order
abbrev pub AreAddresses : Config → ℕ → List AddressLearnt → Type 0
AreAddresses config rewrites addresses = AllZip (λ server one. IsAddressOf config rewrites server.name one) config.servers addresses
