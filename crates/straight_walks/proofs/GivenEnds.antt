-- What is told of the ends that a search gives, where it gives some.
use Rattle.std.proofs.Common.{◌≡◌, ℕ, ◌*◌, ◌/◌, ◌≤◌, ◌++◌, true, List, Option, Some, None, Result, Ok, Err, refl, subst, inl, inr, arith}
use Rattle.std.specs.Prelude.{◌↔◌, IfOk, IfSome}
use Rattle.std.proofs.Math.Nat.{div-mul-le_self}
use Rattle.std.proofs.lemmas.Nat.{mul-le}
use Rattle.dns_data.specs.Name.{Labels}
use Rattle.dns_data.specs.declared.rr_type.RrType.{RrType}
use Rattle.dns_data.specs.declared.rr_type.RrType.TheVariants as types
use Rattle.net_model.specs.declared.deps.Deps.{Deps}
use Rattle.net_model.specs.Nearest.{server_names}
use Rattle.net_model.specs.Shown.{with_lists}
use Rattle.net_model.specs.Step.{Setting, following}
use Rattle.net_model.specs.Tails.{IsUnnamedTail}
use Rattle.net_model.specs.Tree.{HasMoreThan, IsReached}
use Rattle.net_model.specs.Walk.{IsBoundedWith}
use Rattle.net_model.specs.declared.config.Config.{Config}
use Rattle.net_model.specs.declared.fault.Fault.{Fault}
use Rattle.net_model.specs.declared.walk.Leaf.{Leaf}
use Rattle.walk_laws.specs.Outcome.{HasOutcome}
use Rattle.straight_walks.specs.Ends.{IsOutcomeOf}
use Rattle.straight_walks.specs.Searching.{GoesStraightIn, nothing_below, HoldsOfEachName}
use Rattle.straight_walks.specs.Faulty.{AreAbove, ShowsThese}
use Rattle.straight_walks.specs.Nowhere.{told_with}
use Rattle.straight_walks.specs.Straight.{GoesStraight, NoOriginBetween, faults_by_ends, told_of}
use Rattle.straight_walks.specs.declared.ends.StraightEnds.{StraightEnds}
use Rattle.straight_walks.proofs.FewStates.{few_states}
use Rattle.straight_walks.proofs.LeastFollowed.{all_followed, least_followed}
use Rattle.straight_walks.proofs.SameFaulty.{same_faults, same_faults_below}
use Rattle.straight_walks.proofs.ShowsThese.{is_bounded, outcomes_are, shows_these}

module _ (config : Config) (deps : Deps) (rewrites most : ℕ) (query : Labels) where
  -- the query goes straight to these ends, with each type
  abbrev Straight : Setting → StraightEnds → Type 0
  Straight setting ends = (rtype : RrType) → GoesStraight setting deps most query ends rtype

  module _ (ends : StraightEnds) (straight : GoesStraightIn config deps rewrites most query ends) where
    -- the query goes straight while the servers of the least set are followed
    in_least : Straight (following config rewrites deps.least) ends
    in_least = straight (following config rewrites deps.least) (record { config_is = refl; follows = least_followed config rewrites deps }) refl

    -- the query goes straight while all servers are followed
    in_all : Straight (following config rewrites (server_names config)) ends
    in_all = straight (following config rewrites (server_names config)) (record { config_is = refl; follows = all_followed config rewrites deps }) refl

-- where ends are given
module _ (config : Config) (deps : Deps) (rewrites most : ℕ) (query : Labels) {E : Type 0} (given : Result (Option StraightEnds) E) where
  -- what holds of the ends of straight walks holds of these
  by_straight : (Q : StraightEnds → Type 0) → ((ends : StraightEnds) → HoldsOfEachName config query (GoesStraightIn config deps rewrites most) ends → Q ends)
      → IfOk given (λ found. IfSome found (HoldsOfEachName config query (GoesStraightIn config deps rewrites most))) → IfOk given (λ found. IfSome found Q)
  by_straight Q so = by given where
    by : (given : Result (Option StraightEnds) E) → IfOk given (λ found. IfSome found (HoldsOfEachName config query (GoesStraightIn config deps rewrites most)))
        → IfOk given (λ found. IfSome found Q)
    by (Ok None) straight = tt
    by (Ok (Some ends)) straight = so ends straight
    by (Err fault) straight = tt

  -- the zone cuts that are told to show faults are at or above the query
  are_above : (ends : StraightEnds) → GoesStraightIn config deps rewrites most query ends → AreAbove query ends.faulty.items
  are_above ends straight = (in_least config deps rewrites most query ends straight types.A).above

  -- a query with known ends reaches few pairs of state and type
  pub few_given : (states : ℕ) → most * 12 ≤ states → IfOk given (λ found. IfSome found (HoldsOfEachName config query (GoesStraightIn config deps rewrites most)))
      → IfOk given (λ found. IfSome found (λ ends. HasMoreThan (IsReached config rewrites query) states → ⊥))
  few_given states fits =
      by_straight (λ ends. HasMoreThan (IsReached config rewrites query) states → ⊥)
      (λ ends straight. few_states config rewrites deps most query ends (in_all config deps rewrites most query ends (straight query ends (inl (refl, refl)))) states fits)

  -- names below the query whose ends are the query's reach few pairs of state and type
  pub few_given_below : (states : ℕ) → most * 12 ≤ states → IfOk given (λ found. IfSome found (HoldsOfEachName config query (GoesStraightIn config deps rewrites most)))
      → IfOk given (λ found. IfSome found (λ ends. ends.below ≡ true → (name : Labels) → NoOriginBetween config query name
      → HasMoreThan (IsReached config rewrites name) states → ⊥))
  few_given_below states fits =
      by_straight (λ ends. ends.below ≡ true → (name : Labels) → NoOriginBetween config query name → HasMoreThan (IsReached config rewrites name) states → ⊥)
      (λ ends straight below name between.
      few_states config rewrites deps most name ends (in_all config deps rewrites most name ends (straight name ends (inr (inl (below, between, refl))))) states fits)

  -- the query with an unnamed tail reaches few pairs of state and type, if its ends are known then
  pub few_given_unnamed : (states : ℕ) → most * 12 ≤ states → IfOk given (λ found. IfSome found (HoldsOfEachName config query (GoesStraightIn config deps rewrites most)))
      → IfOk given (λ found. IfSome found (λ ends. ends.unnamed_below ≡ true → (tail : Labels) → IsUnnamedTail config query tail
      → HasMoreThan (IsReached config rewrites (query ++ tail)) states → ⊥))
  few_given_unnamed states fits =
      by_straight (λ ends. ends.unnamed_below ≡ true → (tail : Labels) → IsUnnamedTail config query tail → HasMoreThan (IsReached config rewrites (query ++ tail)) states → ⊥)
      (λ ends straight below tail is.
      few_states config rewrites deps most (query ++ tail) (nothing_below ends)
      (in_all config deps rewrites most (query ++ tail) (nothing_below ends) (straight (query ++ tail) (nothing_below ends) (inr (inr (below, (tail, is, refl), refl))))) states fits)

  -- a query with known ends shows the faults that they tell
  pub shown_given : IfOk given (λ found. IfSome found (HoldsOfEachName config query (GoesStraightIn config deps rewrites most)))
      → IfOk given (λ found. IfSome found (λ ends. ShowsThese (with_lists (following config rewrites deps.least) deps.least deps.greatest) query (faults_by_ends query ends)))
  shown_given =
      by_straight (λ ends. ShowsThese (with_lists (following config rewrites deps.least) deps.least deps.greatest) query (faults_by_ends query ends))
      (λ ends straight. shows_these (following config rewrites deps.least) deps most query ends (in_least config deps rewrites most query ends (straight query ends (inl (refl, refl)))))

  -- names below the query whose ends are the query's show them too
  pub shown_given_below : IfOk given (λ found. IfSome found (HoldsOfEachName config query (GoesStraightIn config deps rewrites most)))
      → IfOk given (λ found. IfSome found (λ ends. ends.below ≡ true → (name : Labels) → NoOriginBetween config query name
      → ShowsThese (with_lists (following config rewrites deps.least) deps.least deps.greatest) name (faults_by_ends query ends)))
  shown_given_below =
      by_straight (λ ends. ends.below ≡ true → (name : Labels) → NoOriginBetween config query name → ShowsThese (with_lists (following config rewrites deps.least) deps.least deps.greatest) name (faults_by_ends query ends))
      (λ ends straight below name between.
      subst (λ (all : List Fault). ShowsThese (with_lists (following config rewrites deps.least) deps.least deps.greatest) name (λ rtype. told_with (told_of ends) rtype ++ all))
      (same_faults_below query name between.above ends.faulty.items (are_above ends (straight query ends (inl (refl, refl)))))
      (shows_these (following config rewrites deps.least) deps most name ends (in_least config deps rewrites most name ends (straight name ends (inr (inl (below, between, refl)))))))

  -- so does the query with an unnamed tail, if its ends are known then
  pub shown_given_unnamed : IfOk given (λ found. IfSome found (HoldsOfEachName config query (GoesStraightIn config deps rewrites most)))
      → IfOk given (λ found. IfSome found (λ ends. ends.unnamed_below ≡ true → (tail : Labels) → IsUnnamedTail config query tail
      → ShowsThese (with_lists (following config rewrites deps.least) deps.least deps.greatest) (query ++ tail) (faults_by_ends query ends)))
  shown_given_unnamed =
      by_straight (λ ends. ends.unnamed_below ≡ true → (tail : Labels) → IsUnnamedTail config query tail
      → ShowsThese (with_lists (following config rewrites deps.least) deps.least deps.greatest) (query ++ tail) (faults_by_ends query ends))
      (λ ends straight below tail is.
      subst (λ (all : List Fault). ShowsThese (with_lists (following config rewrites deps.least) deps.least deps.greatest) (query ++ tail) (λ rtype. told_with (told_of ends) rtype ++ all))
      (same_faults query tail ends.faulty.items (are_above ends (straight query ends (inl (refl, refl)))))
      (shows_these (following config rewrites deps.least) deps most (query ++ tail) (nothing_below ends)
      (in_least config deps rewrites most (query ++ tail) (nothing_below ends) (straight (query ++ tail) (nothing_below ends) (inr (inr (below, (tail, is, refl), refl)))))))

  -- a query with known ends is bounded
  pub bounded_given : IfOk given (λ found. IfSome found (HoldsOfEachName config query (GoesStraightIn config deps rewrites most)))
      → IfOk given (λ found. IfSome found (λ ends. (rtype : RrType) → IsBoundedWith (following config rewrites deps.least) query rtype))
  bounded_given =
      by_straight (λ ends. (rtype : RrType) → IsBoundedWith (following config rewrites deps.least) query rtype)
      (λ ends straight. is_bounded (following config rewrites deps.least) deps most query ends (in_least config deps rewrites most query ends (straight query ends (inl (refl, refl)))))

  -- a query with known ends has the outcomes of the ends and no others
  pub outcomes_given : IfOk given (λ found. IfSome found (HoldsOfEachName config query (GoesStraightIn config deps rewrites most)))
      → IfOk given (λ found. IfSome found (λ ends. (rtype : RrType) (outcome : Option Leaf)
      → HasOutcome (following config rewrites deps.least) query rtype outcome ↔ IsOutcomeOf ends rtype outcome))
  outcomes_given =
      by_straight (λ ends. (rtype : RrType) (outcome : Option Leaf) → HasOutcome (following config rewrites deps.least) query rtype outcome ↔ IsOutcomeOf ends rtype outcome)
      (λ ends straight. outcomes_are (following config rewrites deps.least) deps most query ends (in_least config deps rewrites most query ends (straight query ends (inl (refl, refl)))))

-- a number is at most a limit when multiplied, if it is at most the limit divided by the same factor
pub times_fit : (states times most : ℕ) → states ≤ most / times → states * times ≤ most
times_fit states times most fits = omega (arith, mul-le states times (most / times) times fits (omega arith), div-mul-le_self most times)
