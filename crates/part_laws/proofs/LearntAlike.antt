-- The least and the greatest set of learnt addresses have the same local names in the whole and in what is left.
use Rattle.std.proofs.Common.{◌≡◌, ℕ, zero, suc, true, List, [], length, Contains, sym, refl, ap, subst, ◌∙◌, inl, inr}
use Rattle.std.specs.Prelude.{◌↔◌}
use Rattle.std.proofs.lemmas.List.{length-map}
use Rattle.dns_data.specs.Name.{Labels, is_among}
use Rattle.dns_data.specs.declared.rr_type.RrType.{RrType}
use Rattle.dns_data.specs.declared.rr_type.RrType.TheVariants as types
use Rattle.dns_data.proofs.Membership.{from_filter, filter_has}
use Rattle.dns_data.proofs.Searches.{same_truth}
use Rattle.net_model.specs.declared.config.Config.{Config}
use Rattle.net_model.specs.Learnt.{LearnsBy, Learns, IsRound, AfterRounds, IsLeast, IsGreatest, InLeast, InGreatest}
use Rattle.net_model.specs.Nearest.{server_names}
use Rattle.net_model.specs.Step.{following}
use Rattle.net_model.proofs.Naming.{is_listed, from_listed}
use Rattle.net_model.proofs.RoundsExist.{rounds_exist}
use Rattle.part_laws.specs.Part.{restricted, restricted_server, IsLocal, IsPart, HaveSameLocalNames}
use Rattle.part_laws.proofs.QueriesAlike.{is_walk_alike}
use Rattle.part_laws.proofs.ZonesAlike.{names_alike}

-- alike lists have the same local name
alike_has : (config : Config) (names one other : List Labels) → HaveSameLocalNames config names one other → (name : Labels) → IsLocal config names name
    → Contains one name ↔ Contains other name
alike_has config names one other alike name local = (
  λ has. from_listed other name (sym (alike.same name local) ∙ is_listed one name has),
  λ has. from_listed one name (alike.same name local ∙ is_listed other name has),
)

module _ (config : Config) (names : List Labels) (part : IsPart config names) (rewrites : ℕ) where
  -- what is left of the configuration
  abbrev left : Config
  left = restricted names config

  module _ (of_whole of_part : List Labels) (alike : HaveSameLocalNames config names of_part of_whole) (name : Labels) (local : IsLocal config names name) where
    learns_by_alike : (rtype : RrType) → LearnsBy (following left rewrites of_part) name rtype ↔ LearnsBy (following config rewrites of_whole) name rtype
    learns_by_alike rtype = (
      λ by. record { walk = by.walk; is_walk = (is_walk_alike config names part rewrites of_whole of_part alike name rtype by.walk local).0 by.is_walk; ends = by.ends },
      λ by. record { walk = by.walk; is_walk = (is_walk_alike config names part rewrites of_whole of_part alike name rtype by.walk local).1 by.is_walk; ends = by.ends },
    )

    -- the address of a local server can be learnt in both or in neither
    learns_alike : Learns (following left rewrites of_part) name ↔ Learns (following config rewrites of_whole) name
    learns_alike = (
      λ learns. elim learns [ inl four ↦ inl ((learns_by_alike types.A).0 four) | inr six ↦ inr ((learns_by_alike types.Aaaa).0 six) ],
      λ learns. elim learns [ inl four ↦ inl ((learns_by_alike types.A).1 four) | inr six ↦ inr ((learns_by_alike types.Aaaa).1 six) ],
    )

  -- after alike lists the next rounds are alike
  round_alike : (of_whole of_part next_whole next_part : List Labels) → HaveSameLocalNames config names of_part of_whole → IsRound config rewrites of_whole next_whole
      → IsRound left rewrites of_part next_part → HaveSameLocalNames config names next_part next_whole
  round_alike of_whole of_part next_whole next_part alike in_whole in_part =
      record { same = λ name local. same_truth (is_among next_part name) (is_among next_whole name) (there name local) (back name local) }
    where
      there : (name : Labels) → IsLocal config names name → is_among next_part name ≡ true → is_among next_whole name ≡ true
      there name local e =
          let among_left = from_filter in_part.test (server_names left) name (subst (λ (l : List Labels). Contains l name) in_part.are (from_listed next_part name e)) in
          let among : Contains (server_names config) name = subst (λ (l : List Labels). Contains l name) (names_alike config names) among_left.0 in
          let learns = (learns_alike of_whole of_part alike name local).0 ((in_part.tells name among_left.0).0 among_left.1) in
          is_listed next_whole name
          (subst (λ (l : List Labels). Contains l name) (sym in_whole.are)
          (filter_has in_whole.test (server_names config) name among ((in_whole.tells name among).1 learns)))

      back : (name : Labels) → IsLocal config names name → is_among next_whole name ≡ true → is_among next_part name ≡ true
      back name local e =
          let among_left = from_filter in_whole.test (server_names config) name (subst (λ (l : List Labels). Contains l name) in_whole.are (from_listed next_whole name e)) in
          let among : Contains (server_names left) name = subst (λ (l : List Labels). Contains l name) (sym (names_alike config names)) among_left.0 in
          let learns = (learns_alike of_whole of_part alike name local).1 ((in_whole.tells name among_left.0).0 among_left.1) in
          is_listed next_part name
          (subst (λ (l : List Labels). Contains l name) (sym in_part.are)
          (filter_has in_part.test (server_names left) name among ((in_part.tells name among).1 learns)))

  -- after as many rounds, begun with alike lists, the lists are alike
  rounds_alike : (rounds : ℕ) (begin_whole begin_part one other : List Labels) → HaveSameLocalNames config names begin_part begin_whole
      → AfterRounds config rewrites rounds begin_whole one → AfterRounds left rewrites rounds begin_part other → HaveSameLocalNames config names other one
  rounds_alike zero begin_whole begin_part one other alike in_whole in_part =
      subst (λ (l : List Labels). HaveSameLocalNames config names l one) (sym in_part) (subst (HaveSameLocalNames config names begin_part) (sym in_whole) alike)
  rounds_alike (suc rounds) begin_whole begin_part one other alike (x, before, in_whole) (y, also, in_part) =
      round_alike x y one other (rounds_alike rounds begin_whole begin_part x y alike before also) in_whole in_part

  servers_same : length left.servers ≡ length config.servers
  servers_same = length-map config.servers (restricted_server names)

  -- the least sets are alike
  pub least_alike : (one other : List Labels) → IsLeast config rewrites one → IsLeast left rewrites other → HaveSameLocalNames config names other one
  least_alike one other in_whole in_part =
      rounds_alike (length config.servers) [] [] one other (record { same = λ name local. refl }) in_whole
      (subst (λ (rounds : ℕ). AfterRounds left rewrites rounds [] other) servers_same in_part)

  -- the greatest sets are alike
  greatest_alike : (one other : List Labels) → IsGreatest config rewrites one → IsGreatest left rewrites other → HaveSameLocalNames config names other one
  greatest_alike one other in_whole in_part =
      rounds_alike (length config.servers) (server_names config) (server_names left) one other
      (record { same = λ name local. ap (λ (l : List Labels). is_among l name) (names_alike config names) }) in_whole
      (subst (λ (rounds : ℕ). AfterRounds left rewrites rounds (server_names left) other) servers_same in_part)

  -- a local name is in the least set of both or of neither
  pub in_least_alike : (name : Labels) → IsLocal config names name → InLeast left rewrites name ↔ InLeast config rewrites name
  in_least_alike name local = (
    λ (learnt, least, has). (let one = rounds_exist config rewrites (length config.servers) [] in
        (one.0, one.1, (alike_has config names learnt one.0 (least_alike one.0 learnt one.1 least) name local).0 has)),
    λ (learnt, least, has). (let one = rounds_exist left rewrites (length left.servers) [] in
        (one.0, one.1, (alike_has config names one.0 learnt (least_alike learnt one.0 least one.1) name local).1 has)),
  )

  -- and in the greatest set
  pub in_greatest_alike : (name : Labels) → IsLocal config names name → InGreatest left rewrites name ↔ InGreatest config rewrites name
  in_greatest_alike name local = (
    λ (learnt, greatest, has). (let one = rounds_exist config rewrites (length config.servers) (server_names config) in
        (one.0, one.1, (alike_has config names learnt one.0 (greatest_alike one.0 learnt one.1 greatest) name local).0 has)),
    λ (learnt, greatest, has). (let one = rounds_exist left rewrites (length left.servers) (server_names left) in
        (one.0, one.1, (alike_has config names one.0 learnt (greatest_alike learnt one.0 greatest one.1) name local).1 has)),
  )
