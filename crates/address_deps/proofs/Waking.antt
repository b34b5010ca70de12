-- Who doesn't wait for a server's address needn't be looked at again when the server is added or taken away.
use Rattle.std.proofs.Common.{◌≡◌, ℕ, ◌<◌, true, false, Bool, ◌||◌, ◌&&◌, not, List, length, refl, sym, ap, ◌∙◌, subst, inl, inr, Some, None, arith}
use Rattle.std.specs.Prelude.{◌⊎◌, Contains, slice_get}
use Rattle.std.specs.BTreeMap as map
use Rattle.std.proofs.lemmas.Option.{slice_get_cases}
use Rattle.dns_data.specs.Name.{Labels, name_eq, is_among}
use Rattle.dns_data.proofs.Names.{name_eq_decides}
use Rattle.net_model.specs.declared.config.Config.{Config}
use Rattle.net_model.specs.declared.config.Server.{Server}
use Rattle.address_deps.specs.declared.addresses.AddressLearnt.{AddressLearnt}
use Rattle.graph_form.proofs.Paths.{same_item}
use Rattle.graph_form.proofs.Places.{PairAt, pair_at}
use Rattle.dns_data.specs.Listed.{places_of}
use Rattle.address_deps.specs.Dependents.{AreDependents, address_awaits}
use Rattle.address_deps.specs.Addresses.{AreServers, AreAddresses, IsAddressOf}
use Rattle.address_deps.specs.Sets.{NoneMoreLearntAt, IsLearntAt}
use Rattle.address_deps.proofs.Awaited.{AreAlike, alike_back, same_learnt}
use Rattle.address_deps.proofs.Rounds.{there_or_not}

-- the value is that of the server's name
abbrev IsAddressFor : Config → ℕ → Server → AddressLearnt → Type 0
IsAddressFor config rewrites server one = IsAddressOf config rewrites server.name one

-- the value of the name of the server at a place
pub record AddressAt (config : Config) (rewrites : ℕ) (addresses : List AddressLearnt) (place : ℕ) (server : Server) : Type 0 where
  pub one : AddressLearnt
  pub here : slice_get addresses place ≡ Some one
  pub is_address : IsAddressOf config rewrites server.name one

-- at the place of each server stands the value of its name
pub address_at : (config : Config) (rewrites : ℕ) (addresses : List AddressLearnt) (place : ℕ) (server : Server) → AreAddresses config rewrites addresses
    → slice_get config.servers place ≡ Some server → AddressAt config rewrites addresses place server
address_at config rewrites addresses place server are here = by (pair_at (IsAddressFor config rewrites) config.servers addresses are place) where
  by : ((slice_get config.servers place ≡ None) × (slice_get addresses place ≡ None)) ⊎ PairAt (IsAddressFor config rewrites) config.servers addresses place
      → AddressAt config rewrites addresses place server
  by (inl none) = let no : None ≡ Some server = sym none.0 ∙ here in cc
  by (inr pair) =
      let same : pair.one ≡ server = same_item (slice_get config.servers place) pair.one server pair.at_one here in
      record {
        one = pair.other;
        here = pair.at_other;
        is_address = subst (λ (s : Server). IsAddressFor config rewrites s pair.other) same pair.paired;
      }

module _ (config : Config) (addresses : List AddressLearnt) (places : map.BTreeMap Labels (List ℕ)) (dependents : AreDependents addresses (length addresses) places)
    (one other : List Labels) (of_one : AreServers config one) (of_other : AreServers config other)
    (name : Labels) (apart : (server : Labels) → name_eq name server ≡ false → is_among one server ≡ is_among other server) where
  alike : (place : ℕ) → place < length addresses → (Contains (places_of places name) place → ⊥) → (what : AddressLearnt) → slice_get addresses place ≡ Some what
      → AreAlike (address_awaits what) one other
  alike place within not_listed what here =
      record { name = name; apart = apart; not_awaited = λ awaited. not_listed (dependents.listed place what within here name awaited) }

  -- a server that can't be learnt with some names still can't with more, if it doesn't wait for the new one
  pub still_none_more : ((server : Labels) → is_among one server ≡ true → is_among other server ≡ true) → (place : ℕ) → place < length addresses
      → NoneMoreLearntAt config addresses one place → Contains (places_of places name) place ⊎ NoneMoreLearntAt config addresses other place
  still_none_more more place within closed =
      elim (there_or_not (places_of places name) place) [
        | inl listed ↦ inl listed
        | inr not_listed ↦ inr (λ rewrites server are here learns.
            let at = address_at config rewrites addresses place server are here in
            more server.name
            (closed rewrites server are here
            ((at.is_address one of_one).0
            (same_learnt at.one other one (alike_back (address_awaits at.one) one other (alike place within not_listed at.one at.here)) ((at.is_address other of_other).1 learns)))))
      ]

  -- a server that can be learnt with some names still can with fewer, if it doesn't wait for the one taken away
  pub still_learnt : ((server : Labels) → is_among other server ≡ true → is_among one server ≡ true) → (place : ℕ) → place < length addresses
      → IsLearntAt config addresses one place → Contains (places_of places name) place ⊎ IsLearntAt config addresses other place
  still_learnt fewer place within learnt =
      elim (there_or_not (places_of places name) place) [
        | inl listed ↦ inl listed
        | inr not_listed ↦ inr (λ rewrites server are here has.
            let at = address_at config rewrites addresses place server are here in
            (at.is_address other of_other).0
            (same_learnt at.one one other (alike place within not_listed at.one at.here)
            ((at.is_address one of_one).1 (learnt rewrites server are here (fewer server.name has)))))
      ]

-- the server at a place
pub server_at : (config : Config) (place : ℕ) → place < length config.servers → (server : Server) × (slice_get config.servers place ≡ Some server)
server_at config place within =
    elim (slice_get_cases config.servers place).1 [
      | inl found ↦ (found.0, found.2)
      | inr past ↦ absurd (omega (arith, within, past.0))
    ]

module _ (name : Labels) (one other : List Labels) where
  module _ (put : (server : Labels) → is_among other server ≡ (name_eq name server || is_among one server)) where
    -- when a name is put among others, each other name is among them exactly if it was
    pub put_apart : (server : Labels) → name_eq name server ≡ false → is_among one server ≡ is_among other server
    put_apart server differs = sym (put server ∙ ap (λ (b : Bool). b || is_among one server) differs)

    -- when a name is put among others, those that were among them still are
    pub put_more : (server : Labels) → is_among one server ≡ true → is_among other server ≡ true
    put_more server has = put server ∙ by (name_eq name server) where
      by : (b : Bool) → (b || is_among one server) ≡ true
      by true = refl
      by false = has

    -- when a name is put among others, the name is among them
    pub put_there : is_among other name ≡ true
    put_there = put name ∙ ap (λ (b : Bool). b || is_among one name) ((name_eq_decides name name).1 refl)

  module _ (gone : (server : Labels) → is_among other server ≡ (not (name_eq name server) && is_among one server)) where
    -- when a name is taken away from others, each other name is among them exactly if it was
    pub gone_apart : (server : Labels) → name_eq name server ≡ false → is_among one server ≡ is_among other server
    gone_apart server differs = sym (gone server ∙ ap (λ (b : Bool). not b && is_among one server) differs)

    -- when a name is taken away from others, those that are among them were so before
    pub gone_fewer : (server : Labels) → is_among other server ≡ true → is_among one server ≡ true
    gone_fewer server has = by (name_eq name server) (sym (gone server) ∙ has) where
      by : (b : Bool) → (not b && is_among one server) ≡ true → is_among one server ≡ true
      by true e = cc
      by false e = e

    -- when a name is taken away from others, the name isn't among them
    pub gone_there : is_among other name ≡ false
    gone_there = gone name ∙ ap (λ (b : Bool). not b && is_among one name) ((name_eq_decides name name).1 refl)
