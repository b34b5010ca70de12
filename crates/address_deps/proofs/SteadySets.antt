-- Learning ends in a steady set: begun with no server in the least, and begun with all servers in the greatest. So the two
-- sets are found by adding and by taking away one server at a time.
use Rattle.std.proofs.Common.{◌≡◌, ◌∙◌, ◌⊎◌, ◌↔◌, ℕ, zero, suc, ◌+◌, ◌<◌, ◌≤◌, Bool, true, false, cond, List, [], ◌∷◌, length, filter, Contains, refl, sym, ap, subst, inl, inr, arith}
use Rattle.std.proofs.lemmas.List.{length-map}
use Rattle.dns_data.specs.Name.{Labels}
use Rattle.dns_data.proofs.Membership.{none_in_nil, has_first, has_later, filter_has, from_filter}
use Rattle.dns_data.proofs.Searches.{same_truth, filter_same}
use Rattle.net_model.specs.declared.config.Config.{Config}
use Rattle.net_model.specs.declared.config.Server.{Server}
use Rattle.net_model.specs.Learnt.{Learns, IsRound, AfterRounds, IsLeast, IsGreatest}
use Rattle.net_model.specs.Nearest.{server_names}
use Rattle.net_model.specs.Step.{following}
use Rattle.net_model.proofs.LearntSets.{one_round}
use Rattle.net_model.proofs.Naming.{is_listed, from_listed}
use Rattle.net_model.proofs.RoundsExist.{round_exists, rounds_exist}
use Rattle.address_deps.specs.Sets.{Within, AreBelow, AreAbove}
use Rattle.address_deps.proofs.MoreFollowed.{learns_more}

-- ---- filters

module _ {X : Type 0} (one other : X → Bool) where
  -- where what passes the one test passes the other, the two filters keep the same, or the other keeps more
  more_kept : (xs : List X) → ((x : X) → Contains xs x → one x ≡ true → other x ≡ true)
      → (filter one xs ≡ filter other xs) ⊎ (length (filter one xs) < length (filter other xs))
  more_kept [] pass = inl refl
  more_kept (x ∷ xs) pass = by (one x) (other x) (pass x (has_first x xs)) (more_kept xs (λ y has. pass y (has_later x xs y has))) where
    by : (b c : Bool) → (b ≡ true → c ≡ true) → (filter one xs ≡ filter other xs) ⊎ (length (filter one xs) < length (filter other xs))
        → (cond b (x ∷ filter one xs) (filter one xs) ≡ cond c (x ∷ filter other xs) (filter other xs))
        ⊎ (length (cond b (x ∷ filter one xs) (filter one xs)) < length (cond c (x ∷ filter other xs) (filter other xs)))
    by true true both (inl same) = inl (ap (λ (l : List X). x ∷ l) same)
    by true true both (inr less) = inr (omega (arith, less))
    by true false both rest = let no : false ≡ true = both refl in cc
    by false true both (inl same) = inr (omega (arith, ap length same))
    by false true both (inr less) = inr (omega (arith, less))
    by false false both rest = rest

all_kept : {X : Type 0} (xs : List X) → filter (λ x. true) xs ≡ xs
all_kept [] = refl
all_kept (x ∷ xs) = ap (λ l. x ∷ l) (all_kept xs)

-- a filter keeps all items or fewer
kept_or_fewer : {X : Type 0} (test : X → Bool) (xs : List X) → (filter test xs ≡ xs) ⊎ (length (filter test xs) < length xs)
kept_or_fewer test xs =
    elim (more_kept test (λ x. true) xs (λ x has pass. refl)) [
      | inl same ↦ inl (same ∙ all_kept xs)
      | inr less ↦ inr (omega (arith, less, ap length (all_kept xs)))
    ]

module _ (config : Config) (rewrites : ℕ) where
  abbrev names : List Labels
  names = server_names config

  names_count : length names ≡ length config.servers
  names_count = length-map config.servers (λ (server : Server). server.name)

  -- ---- rounds

  -- the name is a configured server's, and its address can be learnt while these are followed
  abbrev pub LearntWhile : List Labels → Labels → Type 0
  LearntWhile followed name = Contains names name × Learns (following config rewrites followed) name

  -- a round learns exactly what can be learnt while the servers before it are followed
  pub round_is : (followed learnt : List Labels) → IsRound config rewrites followed learnt → (name : Labels) → Contains learnt name ↔ LearntWhile followed name
  round_is followed learnt round name = (
    λ has.
        let (among, pass) = from_filter round.test names name (subst (λ (l : List Labels). Contains l name) round.are has) in
        (among, (round.tells name among).0 pass),
    λ (among, learns). subst (λ (l : List Labels). Contains l name) (sym round.are) (filter_has round.test names name among ((round.tells name among).1 learns)),
  )

  -- with more servers followed more is learnt
  while_more : (few more : List Labels) → Within few more → (name : Labels) → LearntWhile few name → LearntWhile more name
  while_more few more within name (among, learns) =
      (among, learns_more config rewrites few more (λ other e. is_listed more other (within other (from_listed few other e))) name learns)

  -- of two rounds the tests keep the same servers, or one of them more
  tests_within : (a b c d : List Labels) (one : IsRound config rewrites a c) (other : IsRound config rewrites b d) → Within c d
      → (c ≡ d) ⊎ (length c < length d)
  tests_within a b c d one other within =
      elim (more_kept one.test other.test names (λ name among pass.
      let has : Contains c name = subst (λ (l : List Labels). Contains l name) (sym one.are) (filter_has one.test names name among pass) in
      (from_filter other.test names name (subst (λ (l : List Labels). Contains l name) other.are (within name has))).1)) [
        | inl same ↦ inl (one.are ∙ same ∙ sym other.are)
        | inr less ↦ inr (omega (arith, less, ap length one.are, ap length other.are))
      ]

  -- a steady set with the same names as others is these, in the order of the servers
  in_order : (steady followed : List Labels) (test : Labels → Bool) → IsRound config rewrites steady steady → Within steady followed → Within followed steady
      → ((name : Labels) → Contains names name → (test name ≡ true) ↔ Contains followed name) → steady ≡ filter test names
  in_order steady followed test round there back tells =
      round.are
      ∙ filter_same round.test test names
      (λ name among. same_truth (round.test name) (test name)
      (λ pass. (tells name among).1
      (there name (subst (λ (l : List Labels). Contains l name) (sym round.are) (filter_has round.test names name among pass))))
      (λ pass. (from_filter round.test names name (subst (λ (l : List Labels). Contains l name) round.are (back name ((tells name among).0 pass)))).1))

  -- ---- from below

  -- rounds begun with none learn more and more
  rises : (rounds : ℕ) (before after : List Labels) → AfterRounds config rewrites rounds [] before → IsRound config rewrites before after → Within before after
  rises zero before after is round = λ name has. absurd (none_in_nil name (subst (λ (l : List Labels). Contains l name) is has))
  rises (suc rounds) before after (earlier, is, first) round =
      λ name has. (round_is before after round name).1
      (while_more earlier before (rises rounds earlier before is first) name ((round_is earlier before first name).0 has))

  same_or_more : (rounds : ℕ) (before after : List Labels) → AfterRounds config rewrites rounds [] before → IsRound config rewrites before after
      → (before ≡ after) ⊎ (length before < length after)
  same_or_more zero before [] is round = inl is
  same_or_more zero before (name ∷ after) is round = inr (omega (arith, ap length is))
  same_or_more (suc rounds) before after (earlier, is, first) round =
      tests_within earlier before before after first round (rises (suc rounds) before after (earlier, is, first) round)

  -- after some rounds the set is steady, or has as many servers
  steady_or_many : (rounds : ℕ) (learnt : List Labels) → AfterRounds config rewrites rounds [] learnt → IsRound config rewrites learnt learnt ⊎ (rounds ≤ length learnt)
  steady_or_many zero learnt is = inr (omega arith)
  steady_or_many (suc rounds) learnt (before, is, round) =
      elim (steady_or_many rounds before is) [
        | inl same ↦ inl (subst (λ (l : List Labels). IsRound config rewrites l l) (one_round config rewrites before before learnt same round) same)
        | inr many ↦ elim (same_or_more rounds before learnt is round) [
          | inl same ↦ inl (subst (λ (l : List Labels). IsRound config rewrites l learnt) same round)
          | inr more ↦ inr (omega (arith, many, more))
        ]
      ]

  -- so after as many rounds as servers it is steady
  least_round : (learnt : List Labels) → IsLeast config rewrites learnt → IsRound config rewrites learnt learnt
  least_round learnt least =
      elim (steady_or_many (length config.servers) learnt least) [
        | inl same ↦ same
        | inr many ↦ (
            let (after, round) = round_exists config rewrites learnt in
            elim (same_or_more (length config.servers) learnt after least round) [
              | inl same ↦ subst (IsRound config rewrites learnt) (sym same) round
              | inr more ↦ (
                  let few : length after ≤ length names =
                  elim (kept_or_fewer round.test names) [
                    | inl same ↦ omega (arith, ap length round.are, ap length same)
                    | inr less ↦ omega (arith, ap length round.are, less)
                  ] in
                  absurd (omega (arith, many, more, few, names_count)))
            ])
      ]

  -- the least set is steady
  pub least_steady : (learnt : List Labels) → IsLeast config rewrites learnt → (name : Labels) → Contains learnt name ↔ LearntWhile learnt name
  least_steady learnt least = round_is learnt learnt (least_round learnt least)

  -- what is learnt is in each set that has all that can be learnt while it is followed
  pub below_closed : (rounds : ℕ) (learnt closed : List Labels) → AfterRounds config rewrites rounds [] learnt
      → ((name : Labels) → LearntWhile closed name → Contains closed name) → Within learnt closed
  below_closed zero learnt closed is has_all = λ name has. absurd (none_in_nil name (subst (λ (l : List Labels). Contains l name) is has))
  below_closed (suc rounds) learnt closed (before, is, round) has_all =
      λ name has. has_all name (while_more before closed (below_closed rounds before closed is has_all) name ((round_is before learnt round name).0 has))

  -- names of the least set are still so with one server more that can be learnt
  pub one_below : (followed more : List Labels) (server : Labels) → AreBelow config rewrites followed → LearntWhile followed server
      → ((name : Labels) → Contains more name → Contains followed name ⊎ (server ≡ name)) → AreBelow config rewrites more
  one_below followed more server below learns from =
      λ learnt least name has.
      elim (from name has) [
        | inl old ↦ below learnt least name old
        | inr new ↦ subst (Contains learnt) new ((least_steady learnt least server).1 (while_more followed learnt (below learnt least) server learns))
      ]

  -- if no server more can be learnt, the names are the least set
  pub is_least : (followed : List Labels) (test : Labels → Bool) → AreBelow config rewrites followed
      → ((name : Labels) → Contains names name → (test name ≡ true) ↔ Contains followed name)
      → ((name : Labels) → LearntWhile followed name → Contains followed name) → IsLeast config rewrites (filter test names)
  is_least followed test below tells closed =
      let (learnt, least) = rounds_exist config rewrites (length config.servers) [] in
      subst (IsLeast config rewrites)
      (in_order learnt followed test (least_round learnt least) (below_closed (length config.servers) learnt followed least closed) (below learnt least) tells) least

  -- ---- from above

  -- rounds begun with all servers learn fewer and fewer
  falls : (rounds : ℕ) (before after : List Labels) → AfterRounds config rewrites rounds names before → IsRound config rewrites before after → Within after before
  falls zero before after is round = λ name has. subst (λ (l : List Labels). Contains l name) (sym is) ((round_is before after round name).0 has).0
  falls (suc rounds) before after (earlier, is, first) round =
      λ name has. (round_is earlier before first name).1
      (while_more before earlier (falls rounds earlier before is first) name ((round_is before after round name).0 has))

  same_or_fewer : (rounds : ℕ) (before after : List Labels) → AfterRounds config rewrites rounds names before → IsRound config rewrites before after
      → (after ≡ before) ⊎ (length after < length before)
  same_or_fewer zero before after is round =
      elim (kept_or_fewer round.test names) [
        | inl same ↦ inl (round.are ∙ same ∙ sym is)
        | inr less ↦ inr (omega (arith, less, ap length round.are, ap length is))
      ]
  same_or_fewer (suc rounds) before after (earlier, is, first) round =
      tests_within before earlier after before round first (falls (suc rounds) before after (earlier, is, first) round)

  steady_or_few : (rounds : ℕ) (learnt : List Labels) → AfterRounds config rewrites rounds names learnt
      → IsRound config rewrites learnt learnt ⊎ (length learnt + rounds ≤ length names)
  steady_or_few zero learnt is = inr (omega (arith, ap length is))
  steady_or_few (suc rounds) learnt (before, is, round) =
      elim (steady_or_few rounds before is) [
        | inl same ↦ inl (subst (λ (l : List Labels). IsRound config rewrites l l) (one_round config rewrites before before learnt same round) same)
        | inr few ↦ elim (same_or_fewer rounds before learnt is round) [
          | inl same ↦ inl (subst (λ (l : List Labels). IsRound config rewrites l learnt) (sym same) round)
          | inr fewer ↦ inr (omega (arith, few, fewer))
        ]
      ]

  greatest_round : (learnt : List Labels) → IsGreatest config rewrites learnt → IsRound config rewrites learnt learnt
  greatest_round learnt greatest =
      elim (steady_or_few (length config.servers) learnt greatest) [
        | inl same ↦ same
        | inr few ↦ (
            let (after, round) = round_exists config rewrites learnt in
            elim (same_or_fewer (length config.servers) learnt after greatest round) [
              | inl same ↦ subst (IsRound config rewrites learnt) same round
              | inr fewer ↦ absurd (omega (arith, few, fewer, names_count))
            ])
      ]

  -- the greatest set is steady
  pub greatest_steady : (learnt : List Labels) → IsGreatest config rewrites learnt → (name : Labels) → Contains learnt name ↔ LearntWhile learnt name
  greatest_steady learnt greatest = round_is learnt learnt (greatest_round learnt greatest)

  -- each set whose servers all can be learnt while it is followed is in what is learnt
  pub above_held : (rounds : ℕ) (learnt held : List Labels) → AfterRounds config rewrites rounds names learnt
      → ((name : Labels) → Contains held name → LearntWhile held name) → Within held learnt
  above_held zero learnt held is each = λ name has. subst (λ (l : List Labels). Contains l name) (sym is) (each name has).0
  above_held (suc rounds) learnt held (before, is, round) each =
      λ name has. (round_is before learnt round name).1 (while_more held before (above_held rounds before held is each) name (each name has))

  -- the greatest set is among names that have all servers
  pub all_above : (followed : List Labels) → Within names followed → AreAbove config rewrites followed
  all_above followed within = λ learnt greatest name has. within name ((greatest_steady learnt greatest name).0 has).0

  -- it is still among them without one server that can't be learnt
  pub one_above : (followed fewer : List Labels) (server : Labels) → AreAbove config rewrites followed → (Learns (following config rewrites followed) server → ⊥)
      → ((name : Labels) → Contains followed name → Contains fewer name ⊎ (server ≡ name)) → AreAbove config rewrites fewer
  one_above followed fewer server above not_learnt from =
      λ learnt greatest name has.
      elim (from name (above learnt greatest name has)) [
        | inl stays ↦ stays
        | inr gone ↦ absurd (not_learnt (while_more learnt followed (above learnt greatest) server
            ((greatest_steady learnt greatest server).0 (subst (Contains learnt) (sym gone) has))).1)
      ]

  -- if each server of the names can be learnt, they are the greatest set
  pub is_greatest : (followed : List Labels) (test : Labels → Bool) → AreAbove config rewrites followed
      → ((name : Labels) → Contains names name → (test name ≡ true) ↔ Contains followed name)
      → ((name : Labels) → Contains followed name → LearntWhile followed name) → IsGreatest config rewrites (filter test names)
  is_greatest followed test above tells each =
      let (learnt, greatest) = rounds_exist config rewrites (length config.servers) names in
      subst (IsGreatest config rewrites)
      (in_order learnt followed test (greatest_round learnt greatest) (above learnt greatest) (above_held (length config.servers) learnt followed greatest each) tells) greatest
