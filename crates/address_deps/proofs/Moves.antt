-- The server at a place: where it isn't added or dropped it is settled; where it is the search goes on fairly, fewer are
-- left to be moved, and it is settled, as those are that were settled before and don't wait for its address.
use Rattle.std.proofs.Common.{◌≡◌, ◌↔◌, ℕ, ◌<◌, Bool, true, false, not, true≢false, List, length, refl, sym, ◌∙◌, subst, Some}
use Rattle.std.specs.Prelude.{◌⊎◌, Contains, slice_get}
use Rattle.std.specs.BTreeMap as map
use Rattle.std.proofs.Math.Bool.{beq}
use Rattle.std.proofs.lemmas.List.Elements.{Contains-get_or}
use Rattle.std.proofs.lemmas.Option.{get_or_from_slice_get, slice_get_within}
use Rattle.dns_data.specs.Name.{Labels, is_among}
use Rattle.dns_data.proofs.Membership.{map_has}
use Rattle.net_model.specs.Learnt.{Learns}
use Rattle.net_model.specs.Nearest.{server_names}
use Rattle.net_model.specs.Step.{following}
use Rattle.net_model.specs.declared.config.Config.{Config}
use Rattle.net_model.specs.declared.config.Server.{Server}
use Rattle.address_deps.specs.declared.addresses.AddressLearnt.{AddressLearnt}
use Rattle.graph_form.proofs.Paths.{same_item}
use Rattle.address_deps.specs.declared.direction.Direction.{Direction}
use Rattle.address_deps.specs.declared.direction.Direction.TheVariants.{Adding, Dropping}
use Rattle.dns_data.specs.Listed.{places_of}
use Rattle.address_deps.specs.Dependents.{AreDependents}
use Rattle.address_deps.specs.Direction.{IsFair, IsMoved, IsSettledAt, adds, unmoved}
use Rattle.address_deps.specs.Addresses.{AreServers, AreAddresses, IsAddressOf, IsLearnt}
use Rattle.address_deps.proofs.Growing.{grown, grown_less, shrunk, shrunk_less}
use Rattle.address_deps.proofs.Waking.{gone_apart, gone_fewer, gone_there, address_at, put_apart, put_more, put_there, still_none_more, still_learnt}

-- in a fair search, in either direction, each name of the list is a configured server's
pub are_servers : (direction : Direction) (config : Config) (addresses : List AddressLearnt) (names : List Labels) → IsFair direction config addresses names → AreServers config names
are_servers Adding config addresses names fair = fair.servers
are_servers Dropping config addresses names fair = fair.servers

-- of two answers that aren't one each is the other's contrary
pub contrary : (a b : Bool) → beq a b ≡ false → a ≡ not b
contrary true true e = cc
contrary true false e = refl
contrary false true e = refl
contrary false false e = cc

module _ (config : Config) (addresses : List AddressLearnt) (names : List Labels) (place : ℕ) (server : Server) (here : slice_get config.servers place ≡ Some server) where
  same : (other : Server) → slice_get config.servers place ≡ Some other → server ≡ other
  same other there = same_item (slice_get config.servers place) server other here there

  -- the answer is whether the server can be learnt while these servers are followed
  abbrev pub TellsLearnt : Bool → Type 0
  TellsLearnt learnt = (rewrites : ℕ) → AreAddresses config rewrites addresses → (learnt ≡ true) ↔ Learns (following config rewrites names) server.name

  -- what stands at the place answers whether the server there can be learnt
  pub by_address : (one : AddressLearnt) (learnt : Bool) → slice_get addresses place ≡ Some one → AreServers config names
      → (learnt ≡ true) ↔ IsLearnt names one → TellsLearnt learnt
  by_address one learnt at servers tells rewrites are =
      let stands = address_at config rewrites addresses place server are here in
      let is = subst (IsAddressOf config rewrites server.name) (same_item (slice_get addresses place) stands.one one stands.here at) stands.is_address names servers in
      (λ yes. is.0 (tells.0 yes), λ learns. tells.1 (is.1 learns))

  -- ---- it isn't added or dropped

  -- a server that is there when servers are added, or isn't there when they are dropped, is settled
  pub kept_settled : (direction : Direction) → is_among names server.name ≡ adds direction → IsSettledAt direction config addresses names place
  kept_settled Adding has = λ rewrites other are there learns. subst (λ (s : Server). is_among names s.name ≡ true) (same other there) has
  kept_settled Dropping lacks = λ rewrites other are there has.
      absurd (true≢false (sym has ∙ subst (λ (s : Server). is_among names s.name ≡ false) (same other there) lacks))

  -- a server that can't be learnt when servers are added, or can when they are dropped, is settled
  pub learnt_settled : (direction : Direction) (learnt : Bool) → TellsLearnt learnt → learnt ≡ not (adds direction) → IsSettledAt direction config addresses names place
  learnt_settled Adding learnt tells is = λ rewrites other are there learns.
      absurd (true≢false (sym ((tells rewrites are).1 (subst (λ (s : Server). Learns (following config rewrites names) s.name) (sym (same other there)) learns)) ∙ is))
  learnt_settled Dropping learnt tells is = λ rewrites other are there has.
      subst (λ (s : Server). Learns (following config rewrites names) s.name) (same other there) ((tells rewrites are).0 is)

  -- ---- it is

  among : Contains (server_names config) server.name
  among =
      map_has (λ (s : Server). s.name) config.servers server
      (subst (Contains config.servers) (get_or_from_slice_get config.servers place server server here)
      (Contains-get_or config.servers place server (slice_get_within config.servers place server here)))

  -- when a server moves, fewer servers are left that haven't
  pub fewer_unmoved : (direction : Direction) (new : List Labels) → is_among names server.name ≡ not (adds direction) → IsMoved direction server.name names new
      → unmoved direction config.servers new < unmoved direction config.servers names
  fewer_unmoved Adding new lacks moved = grown_less config addresses names new server.name among lacks moved
  fewer_unmoved Dropping new has moved = shrunk_less config addresses names new server.name among has moved

  -- the search stays fair when a server is added that can be learnt, or dropped that can't
  pub still_fair : (direction : Direction) (new : List Labels) (learnt : Bool) → is_among names server.name ≡ not (adds direction) → IsMoved direction server.name names new
      → TellsLearnt learnt → learnt ≡ adds direction → IsFair direction config addresses names → IsFair direction config addresses new
  still_fair Adding new learnt lacks moved tells is fair =
      grown config addresses names new server.name among lacks moved fair (λ rewrites are. (tells rewrites are).0 is)
  still_fair Dropping new learnt has moved tells is fair =
      shrunk config addresses names new server.name among has moved fair (λ rewrites are learns. true≢false (sym ((tells rewrites are).1 learns) ∙ is))

-- the server is there, or is gone
moved_there : (direction : Direction) (name : Labels) (old new : List Labels) → IsMoved direction name old new → is_among new name ≡ adds direction
moved_there Adding name old new moved = put_there name old new moved
moved_there Dropping name old new moved = gone_there name old new moved

-- a server that was added or dropped is settled
pub moved_settled : (direction : Direction) (config : Config) (addresses : List AddressLearnt) (place : ℕ) (server : Server) (old new : List Labels)
    → slice_get config.servers place ≡ Some server → IsMoved direction server.name old new → IsSettledAt direction config addresses new place
moved_settled direction config addresses place server old new here moved =
    kept_settled config addresses new place server here direction (moved_there direction server.name old new moved)

module _ (config : Config) (addresses : List AddressLearnt) (places : map.BTreeMap Labels (List ℕ)) (dependents : AreDependents addresses (length addresses) places)
    (old new : List Labels) (of_old : AreServers config old) (of_new : AreServers config new) (name : Labels) where
  -- servers that were settled before a server moved still are, unless they wait for it
  pub still_settled : (direction : Direction) → IsMoved direction name old new → (place : ℕ) → place < length addresses
      → IsSettledAt direction config addresses old place → Contains (places_of places name) place ⊎ IsSettledAt direction config addresses new place
  still_settled Adding moved = still_none_more config addresses places dependents old new of_old of_new name (put_apart name old new moved) (put_more name old new moved)
  still_settled Dropping moved = still_learnt config addresses places dependents old new of_old of_new name (gone_apart name old new moved) (gone_fewer name old new moved)
