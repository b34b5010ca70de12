-- What is learnt in rounds.
use Rattle.std.proofs.Common.{◌≡◌, ◌↔◌, ℕ, zero, suc, ◌+◌, ◌≤◌, Bool, true, List, subst, inl, inr, arith}
use Rattle.std.proofs.lemmas.Bool.{cases_lt}
use Rattle.dns_data.specs.Name.{Labels}
use Rattle.dns_data.proofs.Searches.{same_truth}
use Rattle.net_model.specs.declared.config.Config.{Config}
use Rattle.net_model.specs.Learnt.{Learns, IsRound, AfterRounds}
use Rattle.net_model.specs.Step.{following}
use Rattle.net_model.proofs.LearntSets.{one_after_rounds}
use Rattle.net_model.proofs.RoundsExist.{learns_decided}
use Rattle.plain_resolver.specs.Passed.{NoneHasTooMany, NoneInRounds}

-- whether an address of a name is learnt while some servers are followed
pub test_while : Config → ℕ → List Labels → Labels → Bool
test_while config rewrites followed name = (learns_decided (following config rewrites followed) name).0

-- the test passes exactly the names of which an address is learnt
pub test_tells : (config : Config) (rewrites : ℕ) (followed : List Labels) (name : Labels)
    → (test_while config rewrites followed name ≡ true) ↔ Learns (following config rewrites followed) name
unfolding test_while
test_tells config rewrites followed name = (learns_decided (following config rewrites followed) name).1

-- a test that passes exactly where an address of the name is learnt answers as this one does
pub test_is : (config : Config) (rewrites : ℕ) (followed : List Labels) (name : Labels) (test : Bool)
    → (test ≡ true) ↔ Learns (following config rewrites followed) name → test_while config rewrites followed name ≡ test
test_is config rewrites followed name test tells =
    same_truth (test_while config rewrites followed name) test
    (λ h. tells.1 ((test_tells config rewrites followed name).0 h))
    (λ h. (test_tells config rewrites followed name).1 (tells.0 h))

module _ (config : Config) (rewrites : ℕ) (begin learnt : List Labels) (same : IsRound config rewrites learnt learnt) where
  -- a round that leads from a set to itself is every later round
  pub stays : (rounds total : ℕ) → rounds ≤ total → AfterRounds config rewrites rounds begin learnt → AfterRounds config rewrites total begin learnt
  stays rounds zero within after = subst (λ (n : ℕ). AfterRounds config rewrites n begin learnt) (let e : rounds ≡ zero = omega arith in e) after
  stays rounds (suc total) within after =
      elim (cases_lt rounds (suc total)) [
        | inl less ↦ (learnt, stays rounds total (omega arith) after, same)
        | inr equal ↦ subst (λ (n : ℕ). AfterRounds config rewrites n begin learnt) (let e : rounds ≡ suc total = omega arith in e) after
      ]

-- one set more in which no server has too many walks
one_more : (config : Config) (rewrites most : ℕ) (begin followed : List Labels) (rounds : ℕ) → NoneInRounds config rewrites most begin rounds
    → AfterRounds config rewrites rounds begin followed → NoneHasTooMany config rewrites most followed → NoneInRounds config rewrites most begin (suc rounds)
one_more config rewrites most begin followed rounds none after few =
    λ before other within is.
    elim (cases_lt before rounds) [
      | inl less ↦ none before other less is
      | inr not_less ↦ (
          let here : before ≡ rounds = omega arith in
          let also = subst (λ (n : ℕ). AfterRounds config rewrites n begin other) here is in
          subst (NoneHasTooMany config rewrites most) (one_after_rounds config rewrites rounds begin followed other after also) few)
    ]

-- if no server's name has too many walks in the set after some rounds, none has in one round more
pub next_few : (config : Config) (rewrites most : ℕ) (begin followed : List Labels) (rounds : ℕ) → NoneInRounds config rewrites most begin rounds
    → AfterRounds config rewrites rounds begin followed → NoneHasTooMany config rewrites most followed → NoneInRounds config rewrites most begin (rounds + 1)
next_few config rewrites most begin followed rounds none after few =
    subst (NoneInRounds config rewrites most begin) (let e : suc rounds ≡ rounds + 1 = omega arith in e) (one_more config rewrites most begin followed rounds none after few)

-- what a round makes of what is learnt after so many is learnt after one more
pub next_round : (config : Config) (rewrites : ℕ) (begin followed learnt : List Labels) (rounds : ℕ) → AfterRounds config rewrites rounds begin followed
    → IsRound config rewrites followed learnt → AfterRounds config rewrites (rounds + 1) begin learnt
next_round config rewrites begin followed learnt rounds after round =
    subst (λ (n : ℕ). AfterRounds config rewrites n begin learnt) (let e : suc rounds ≡ rounds + 1 = omega arith in e) (followed, after, round)

-- if a round leads from a set to itself, and no server's name has too many walks in it, none has in any later round
pub all_more : (config : Config) (rewrites most : ℕ) (begin followed : List Labels) (rounds total : ℕ) → NoneInRounds config rewrites most begin rounds
    → AfterRounds config rewrites rounds begin followed → NoneHasTooMany config rewrites most followed → IsRound config rewrites followed followed
    → NoneInRounds config rewrites most begin total
all_more config rewrites most begin followed rounds total none after few same =
    λ before other within is.
    elim (cases_lt before rounds) [
      | inl less ↦ none before other less is
      | inr not_less ↦ (
          let there = stays config rewrites begin followed same rounds before (omega arith) after in
          subst (NoneHasTooMany config rewrites most) (one_after_rounds config rewrites before begin followed other there is) few)
    ]
