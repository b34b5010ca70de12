-- Whether addresses of the servers' names are learnt, one after another. None of the names reaches too many pairs of state
-- and type.
use Rattle.std.proofs.Common.{◌≡◌, ◌∙◌, ℕ, ◌+◌, ◌<◌, ◌≤◌, List, [], ◌∷◌, ◌++◌, take, drop, map, length, get_or, Contains, sym, ap, subst, inl, inr}
use Rattle.std.specs.List.{AllZip}
use Rattle.std.proofs.lemmas.List.{at_drop_more, map-append, take-append-drop, take_all, take_more}
use Rattle.std.proofs.lemmas.List.Elements.{Contains-append_cases}
use Rattle.std.proofs.lemmas.Slice.Zip.{AllZip-long, all_zipped_more}
use Rattle.dns_data.proofs.Membership.{none_in_nil, first_or_later, from_map}
use Rattle.address_deps.specs.Addresses.{AreAddresses, IsAddressOf}
use Rattle.address_deps.specs.declared.addresses.AddressLearnt.{AddressLearnt}
use Rattle.net_model.specs.declared.config.Config.{Config}
use Rattle.net_model.specs.declared.config.Server.{Server}
use Rattle.dns_data.specs.Name.{IsName}
use Rattle.query_verdicts.specs.Passed.{IsFirstServerPassed}
use Rattle.query_verdicts.specs.Verdict.{PassesStates, SomeServerPasses}

module _ (config : Config) (rewrites states : ℕ) where
  abbrev IsAddressFor : Server → AddressLearnt → Type 0
  IsAddressFor server address = IsAddressOf config rewrites server.name address

  -- the addresses are those of these servers' names, none of which reaches too many pairs
  pub record AreSoFar (servers : List Server) (addresses : List AddressLearnt) : Type 0 where
    pub beside : AllZip IsAddressFor servers addresses
    pub few : (server : Server) → Contains servers server → PassesStates config rewrites states server.name → ⊥

  -- before the first server there are none
  pub none_so_far : AreSoFar [] []
  none_so_far = record { beside = tt; few = λ server has. absurd (none_in_nil server has) }

  -- with that of the next server's name, which doesn't reach too many pairs, they are those of the servers up to it
  pub one_address_more : (servers : List Server) (i : ℕ) (addresses : List AddressLearnt) (server : Server) (one : AddressLearnt) → i < length servers
      → get_or servers i server ≡ server → AreSoFar (take i servers) addresses → IsAddressOf config rewrites server.name one
      → (PassesStates config rewrites states server.name → ⊥) → AreSoFar (take (i + 1) servers) (addresses ++ one ∷ [])
  one_address_more servers i addresses server one within is so_far is_address few =
      subst (λ (l : List Server). AreSoFar l (addresses ++ one ∷ [])) (sym (take_more servers i server within ∙ ap (λ (s : Server). take i servers ++ s ∷ []) is))
      (record {
        beside = all_zipped_more IsAddressFor (take i servers) addresses server one so_far.beside is_address;
        few = λ other has. elim (Contains-append_cases (take i servers) (server ∷ []) other has) [
          | inl old ↦ so_far.few other old
          | inr new ↦ elim (first_or_later server [] other new) [
            | inl same ↦ subst (λ (s : Server). PassesStates config rewrites states s.name → ⊥) same few
            | inr none ↦ absurd (none_in_nil other none)
          ]
        ];
      })

  -- once all servers had their turn, they are those of the configured servers' names
  pub all_addresses : (n : ℕ) (addresses : List AddressLearnt) → length config.servers ≤ n → AreSoFar (take n config.servers) addresses → AreAddresses config rewrites addresses
  all_addresses n addresses long so_far = subst (λ (servers : List Server). AllZip IsAddressFor servers addresses) (take_all n config.servers long) so_far.beside

  -- when all servers have had their turn, none of their names reaches too many pairs
  pub none_passes : (n : ℕ) (addresses : List AddressLearnt) → length config.servers ≤ n → AreSoFar (take n config.servers) addresses
      → SomeServerPasses config rewrites states → ⊥
  none_passes n addresses long so_far (name, has, passes) =
      let (server, among, same) = from_map (λ (s : Server). s.name) config.servers name has in
      so_far.few server (subst (λ (l : List Server). Contains l server) (sym (take_all n config.servers long)) among)
      (subst (PassesStates config rewrites states) (sym same) passes)

  -- the next server is the first whose name reaches too many pairs, if its name does and none before it does
  pub first_server : (i : ℕ) (addresses : List AddressLearnt) (server : Server) → i < length config.servers → get_or config.servers i server ≡ server
      → AreSoFar (take i config.servers) addresses → IsName server.name → PassesStates config rewrites states server.name
      → IsFirstServerPassed config rewrites states server.name
  first_server i addresses server within is so_far is_name passes =
      record {
        before = map (λ (s : Server). s.name) (take i config.servers);
        after = map (λ (s : Server). s.name) (drop (i + 1) config.servers);
        among =
            ap (λ (servers : List Server). map (λ (s : Server). s.name) servers)
            (sym (take-append-drop i config.servers)
            ∙ ap (λ (rest : List Server). take i config.servers ++ rest)
            (at_drop_more (λ (l : List Server). l) config.servers i server within ∙ ap (λ (s : Server). s ∷ drop (i + 1) config.servers) is))
            ∙ map-append (λ (s : Server). s.name) (take i config.servers) (server ∷ drop (i + 1) config.servers);
        is_name = is_name;
        passes = passes;
        first = λ other has other_passes.
            let (before, among, same) = from_map (λ (s : Server). s.name) (take i config.servers) other has in
            so_far.few before among (subst (PassesStates config rewrites states) (sym same) other_passes);
      }

  -- there are as many as servers
  pub as_many : (addresses : List AddressLearnt) → AreAddresses config rewrites addresses → length addresses ≡ length config.servers
  as_many addresses are = AllZip-long IsAddressFor config.servers addresses are
