-- The states of the search for the least and for the greatest set.
use Rattle.std.proofs.Common.{◌≡◌, ℕ, ◌<◌, ◌≤◌, Bool, true, false, not, ◌||◌, ◌&&◌, List, [], ◌∷◌, ◌++◌, map, length, filter, Contains, refl, sym, ap, ◌∙◌, subst, inl, inr, arith}
use Rattle.std.specs.Prelude.{◌⊎◌}
use Rattle.std.specs.Cmp.Lexicographic.{nat_list_eq_equiv, lists_equiv}
use Rattle.std.specs.List.{sum_by}
use Rattle.std.proofs.lemmas.List.Folds.{list_any-append}
use Rattle.std.proofs.lemmas.List.Sums.{sum_by-cons}
use Rattle.std.proofs.lemmas.Bool.{or_cases}
use Rattle.std.proofs.lemmas.Option.{slice_get_within}
use Rattle.dns_data.specs.Name.{Labels, name_eq, is_among}
use Rattle.dns_data.proofs.Membership.{from_map, first_or_later, none_in_nil}
use Rattle.dns_data.proofs.Names.{name_eq_decides}
use Rattle.net_model.specs.declared.config.Config.{Config}
use Rattle.net_model.specs.declared.config.Server.{Server}
use Rattle.net_model.specs.Learnt.{Learns, IsLeast, IsGreatest}
use Rattle.net_model.specs.Nearest.{server_names}
use Rattle.net_model.specs.Step.{following}
use Rattle.net_model.proofs.Naming.{from_listed, is_listed}
use Rattle.address_deps.specs.declared.addresses.AddressLearnt.{AddressLearnt}
use Rattle.graph_form.proofs.Places.{place_of_item}
use Rattle.address_deps.specs.Giving.{unset}
use Rattle.address_deps.specs.Addresses.{AreServers, AreAddresses}
use Rattle.address_deps.specs.Sets.{absent, present, IsGrowing, NoneMoreLearnt, IsShrinking, AreLearnt, NoneMoreLearntAt, IsLearntAt}
use Rattle.address_deps.proofs.Waking.{gone_fewer, gone_there, put_more, put_there}
use Rattle.address_deps.proofs.SteadySets.{one_below, is_least, all_above, one_above, is_greatest}

-- ---- counting

unset_less : (one other : Bool) → (one ≡ true → other ≡ true) → unset other ≤ unset one
unset_less true true more = omega arith
unset_less true false more = let no : false ≡ true = more refl in cc
unset_less false true more = omega arith
unset_less false false more = omega arith

module _ (few more : Labels → Bool) (grows : (name : Labels) → few name ≡ true → more name ≡ true) where
  -- with more servers fewer are missing
  count_falls : (servers : List Server) → sum_by (λ (s : Server). unset (more s.name)) servers ≤ sum_by (λ (s : Server). unset (few s.name)) servers
  count_falls [] = omega arith
  count_falls (server ∷ servers) =
      let one = unset_less (few server.name) (more server.name) (grows server.name) in
      let rest = count_falls servers in
      omega (
        arith,
        one,
        rest,
        sum_by-cons (λ (s : Server). unset (more s.name)) server servers,
        sum_by-cons (λ (s : Server). unset (few s.name)) server servers,
      )

  -- where the name of one of the servers is among more and not among few, fewer servers are missing in more than in few
  pub count_less : (servers : List Server) (name : Labels) → Contains (map (λ (s : Server). s.name) servers) name → few name ≡ false → more name ≡ true
      → sum_by (λ (s : Server). unset (more s.name)) servers < sum_by (λ (s : Server). unset (few s.name)) servers
  count_less [] name has missing there = absurd (none_in_nil name has)
  count_less (server ∷ servers) name has missing there =
      elim (first_or_later server.name (map (λ (s : Server). s.name) servers) name has) [
        | inl same ↦ (
            let rest = count_falls servers in
            let was : unset (few server.name) ≡ 1 = ap (λ (n : Labels). unset (few n)) same ∙ ap unset missing in
            let is : unset (more server.name) ≡ 0 = ap (λ (n : Labels). unset (more n)) same ∙ ap unset there in
            omega (arith, rest, was, is, sum_by-cons (λ (s : Server). unset (more s.name)) server servers, sum_by-cons (λ (s : Server). unset (few s.name)) server servers))
        | inr later ↦ (
            let one = unset_less (few server.name) (more server.name) (grows server.name) in
            let rest = count_less servers name later missing there in
            omega (arith, one, rest, sum_by-cons (λ (s : Server). unset (more s.name)) server servers, sum_by-cons (λ (s : Server). unset (few s.name)) server servers))
      ]

-- ---- the search for the least set

module _ (config : Config) (addresses : List AddressLearnt) where
  -- before any server is added the search for the least set is fair
  pub grows_from_none : IsGrowing config addresses []
  grows_from_none =
      record {
        servers = λ name h. cc;
        below = λ rewrites are learnt least name has. absurd (none_in_nil name has);
      }

  module _ (learnt more : List Labels) (name : Labels) (among : Contains (server_names config) name) (missing : is_among learnt name ≡ false)
      (put : (other : Labels) → is_among more other ≡ (name_eq name other || is_among learnt other)) where
    -- with one server more among the learnt ones fewer configured servers are absent
    pub grown_less : absent config.servers more < absent config.servers learnt
    grown_less = count_less (is_among learnt) (is_among more) (put_more name learnt more put) config.servers name among missing (put_there name learnt more put)

    -- the search for the least set stays fair when a server is added whose address is learnt
    pub grown : IsGrowing config addresses learnt → ((rewrites : ℕ) → AreAddresses config rewrites addresses → Learns (following config rewrites learnt) name)
        → IsGrowing config addresses more
    grown growing learns =
        record {
          servers = λ other h.
              elim (or_cases (name_eq name other) (is_among learnt other) (sym (put other) ∙ h)) [
                | inl same ↦ is_listed (server_names config) other (subst (Contains (server_names config)) ((name_eq_decides name other).0 same) among)
                | inr old ↦ growing.servers other old
              ];
          below = λ rewrites are.
              one_below config rewrites learnt more name (growing.below rewrites are) (among, learns rewrites are)
              (λ other has. elim (or_cases (name_eq name other) (is_among learnt other) (sym (put other) ∙ is_listed more other has)) [
                | inl same ↦ inr ((name_eq_decides name other).0 same)
                | inr old ↦ inl (from_listed learnt other old)
              ]);
        }

  -- where no server more can be learnt, those that the search added are the least set, in the order of the servers
  pub is_least_set : (learnt : List Labels) → IsGrowing config addresses learnt → NoneMoreLearnt config addresses learnt → (rewrites : ℕ) → AreAddresses config rewrites addresses
      → IsLeast config rewrites (filter (is_among learnt) (server_names config))
  is_least_set learnt growing closed rewrites are =
      is_least config rewrites learnt (is_among learnt) (growing.below rewrites are)
      (λ name among. (from_listed learnt name, is_listed learnt name))
      (λ name (among, learns). from_listed learnt name (closed rewrites are name among learns))

-- ---- the search for the greatest set

module _ (config : Config) (addresses : List AddressLearnt) where
  -- before any server is taken away the search for the greatest set is fair
  pub shrinks_from_all : (known : List Labels) → AreServers config known → ((name : Labels) → Contains (server_names config) name → is_among known name ≡ true)
      → IsShrinking config addresses known
  shrinks_from_all known servers all =
      record {
        servers = servers;
        above = λ rewrites are. all_above config rewrites known (λ name among. from_listed known name (all name among));
      }

  module _ (known fewer : List Labels) (name : Labels) (among : Contains (server_names config) name) (there : is_among known name ≡ true)
      (taken : (other : Labels) → is_among fewer other ≡ (not (name_eq name other) && is_among known other)) where
    turned : (other : Labels) → not (is_among known other) ≡ true → not (is_among fewer other) ≡ true
    turned other h = by (is_among fewer other) refl where
      by : (b : Bool) → is_among fewer other ≡ b → not b ≡ true
      by false e = refl
      by true e = let no : not true ≡ true = sym (ap not (gone_fewer name known fewer taken other e)) ∙ h in cc

    -- with one server fewer among the known ones fewer configured servers are present
    pub shrunk_less : present config.servers fewer < present config.servers known
    shrunk_less =
        count_less (λ (n : Labels). not (is_among known n)) (λ (n : Labels). not (is_among fewer n)) turned config.servers name among (ap not there) (ap not (gone_there name known fewer taken))

    -- the search for the greatest set stays fair when a server is taken away whose address isn't learnt
    pub shrunk : IsShrinking config addresses known → ((rewrites : ℕ) → AreAddresses config rewrites addresses → Learns (following config rewrites known) name → ⊥)
        → IsShrinking config addresses fewer
    shrunk shrinking fails =
        record {
          servers = λ other h. shrinking.servers other (gone_fewer name known fewer taken other h);
          above = λ rewrites are.
              one_above config rewrites known fewer name (shrinking.above rewrites are) (fails rewrites are)
              (λ other has. by other (name_eq name other) refl (is_listed known other has));
        }
      where
        by : (other : Labels) (b : Bool) → name_eq name other ≡ b → is_among known other ≡ true → Contains fewer other ⊎ (name ≡ other)
        by other true e has = inr ((name_eq_decides name other).0 e)
        by other false e has = inl (from_listed fewer other (taken other ∙ ap (λ (b : Bool). not b && is_among known other) e ∙ has))

  -- where each server that is left can be learnt, those that are left are the greatest set, in the order of the servers
  pub is_greatest_set : (known : List Labels) → IsShrinking config addresses known → AreLearnt config addresses known → (rewrites : ℕ) → AreAddresses config rewrites addresses
      → IsGreatest config rewrites (filter (is_among known) (server_names config))
  is_greatest_set known shrinking each rewrites are =
      is_greatest config rewrites known (is_among known) (shrinking.above rewrites are)
      (λ name among. (from_listed known name, is_listed known name))
      (λ name has.
      let among = from_listed (server_names config) name (shrinking.servers name (is_listed known name has)) in
      (among, each rewrites are name among (is_listed known name has)))

-- ---- each server

module _ (config : Config) (addresses : List AddressLearnt) (names : List Labels) where
  -- if at each place no server more can be learnt, none more can be learnt at all
  pub none_more_in_all : ((place : ℕ) → place < length config.servers → NoneMoreLearntAt config addresses names place) → NoneMoreLearnt config addresses names
  none_more_in_all each = λ rewrites are name among learns.
      let found = from_map (λ (s : Server). s.name) config.servers name among in
      let place = place_of_item config.servers found.0 found.1 in
      subst (λ (n : Labels). is_among names n ≡ true) found.2
      (each place.0 (slice_get_within config.servers place.0 found.0 place.1) rewrites found.0 are place.1
      (subst (Learns (following config rewrites names)) (sym found.2) learns))

  -- where the server at each place is learnt if it is in the list, each server of the list is learnt
  pub all_learnt : ((place : ℕ) → place < length config.servers → IsLearntAt config addresses names place) → AreLearnt config addresses names
  all_learnt each = λ rewrites are name among has.
      let found = from_map (λ (s : Server). s.name) config.servers name among in
      let place = place_of_item config.servers found.0 found.1 in
      subst (Learns (following config rewrites names)) found.2
      (each place.0 (slice_get_within config.servers place.0 found.0 place.1) rewrites found.0 are place.1
      (subst (λ (n : Labels). is_among names n ≡ true) (sym found.2) has))

-- whether a list with one name more has a name is whether the name is that one or was in it before
pub put_last : (xs : List Labels) (y name : Labels) (before : Bool) → before ≡ is_among xs name → (name_eq y name || before) ≡ is_among (xs ++ y ∷ []) name
put_last xs y name before is =
    ap (λ (b : Bool). b || before) ((lists_equiv nat_list_eq_equiv).symm y name)
    ∙ ap (λ (b : Bool). name_eq name y || b) is
    ∙ swap (name_eq name y) (is_among xs name)
    ∙ sym (list_any-append (name_eq name) xs (y ∷ []))
  where
    swap : (a b : Bool) → (a || b) ≡ (b || (a || false))
    swap true true = refl
    swap true false = refl
    swap false true = refl
    swap false false = refl
