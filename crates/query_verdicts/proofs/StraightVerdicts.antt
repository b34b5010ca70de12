-- What the walks of a query end in that go straight, and its verdict: the faults that the ends tell.
use Rattle.std.proofs.Common.{◌≡◌, ℕ, true, List, [], ◌++◌, Option, Some, None, Result, Ok, Err, sym, subst, arith}
use Rattle.std.specs.Prelude.{◌↔◌, IfOk, IfSome, Contains}
use Rattle.dns_data.specs.Name.{Labels}
use Rattle.dns_data.specs.declared.rr_type.RrType.{RrType}
use Rattle.dns_data.proofs.Membership.{none_in_nil}
use Rattle.dns_data.specs.declared.rr_type.RrType.TheVariants as types
use Rattle.graph_form.specs.Branches.{with_type}
use Rattle.graph_form.specs.Verdict.{AreFirstTypes}
use Rattle.net_model.specs.declared.deps.Deps.{Deps}
use Rattle.net_model.specs.declared.config.Config.{Config}
use Rattle.net_model.specs.declared.fault.Fault.{Fault}
use Rattle.net_model.specs.Shown.{with_lists, with_sets}
use Rattle.net_model.specs.Step.{following}
use Rattle.net_model.specs.Tails.{IsUnnamedTail}
use Rattle.net_model.specs.Tree.{HasMoreThan, IsReached}
use Rattle.net_model.specs.Walk.{IsBoundedWith}
use Rattle.net_model.specs.declared.walk.Leaf.{Leaf}
use Rattle.straight_walks.specs.Ends.{IsOutcomeOf}
use Rattle.straight_walks.specs.Faulty.{ShowsThese}
use Rattle.straight_walks.specs.Straight.{NoOriginBetween, faults_by_ends}
use Rattle.straight_walks.specs.declared.ends.StraightEnds.{StraightEnds}
use Rattle.straight_walks.proofs.ShowsThese.{first_shown, told_with_first}
use Rattle.walk_laws.specs.Outcome.{HasOutcome}
use Rattle.walk_laws.proofs.GivenSets.{lists_show}
use Rattle.query_verdicts.specs.Queries.{AreSets, AreStraightEnds, IsJudgedBy}
use Rattle.query_verdicts.specs.Verdict.{IsClassVerdict}
use Rattle.query_verdicts.specs.declared.verdict.ClassVerdict.TheVariants.{Faults}
use Rattle.query_verdicts.proofs.ClassesJudged.{all_sought}

-- ---- where there is no fault

-- no fault is the first of none
none_first : AreFirstTypes [] []
none_first =
    record {
      ordered = λ i j d less within. absurd (omega arith);
      from = λ seen has. has;
      covers = λ seen has. absurd (none_in_nil seen has);
    }

-- a query whose ends tell no fault shows none
pub judged_quiet : (config : Config) (rewrites states : ℕ) (query name : Labels) (ends : StraightEnds) → faults_by_ends query ends types.A ≡ []
    → IsJudgedBy config rewrites states (faults_by_ends query ends) name → IsClassVerdict config rewrites states name (Faults [])
judged_quiet config rewrites states query name ends none told =
    told [] (subst (λ (all : List Fault). AreFirstTypes (with_type types.A all) []) (sym none) none_first)

-- ---- the verdict of a query with straight ends

-- the query reaches few pairs
abbrev pub IsFew : Config → ℕ → ℕ → Labels → Type 0
IsFew config rewrites states query = HasMoreThan (IsReached config rewrites query) states → ⊥

-- the query shows these faults with the two sets of learnt addresses
abbrev pub ShowsFaults : Config → ℕ → Deps → (RrType → List Fault) → Labels → Type 0
ShowsFaults config rewrites deps told query = ShowsThese (with_lists (following config rewrites deps.least) deps.least deps.greatest) query told

module _ (config : Config) (rewrites states : ℕ) (query : Labels) (deps : Deps) (sets : AreSets config rewrites states deps) where
  -- so the verdict of such a query has the first of each
  judged_for : (told : RrType → List Fault) (name : Labels) → ((rtype : RrType) (fault : Fault) → Contains (told rtype) fault → Contains (told types.A) fault)
      → IsFew config rewrites states name → ShowsFaults config rewrites deps told name → IsJudgedBy config rewrites states told name
  judged_for told name with_first few these shown firsts = (
    few,
    all_sought config rewrites states deps sets name shown (first_shown (with_sets (following config rewrites deps.least)) name told shown with_both with_first firsts),
  )
    where
      with_both : ShowsThese (with_sets (following config rewrites deps.least)) name told
      with_both =
          record {
            there = λ rtype fault has. (lists_show config rewrites deps.least deps.least deps.greatest sets.least sets.greatest name rtype fault).0 (these.there rtype fault has);
            only = λ rtype fault shows. these.only rtype fault ((lists_show config rewrites deps.least deps.least deps.greatest sets.least sets.greatest name rtype fault).1 shows);
          }

  -- what holds of the ends that a call gives holds of the query, and of the names of which they tell the ends too
  pub straight_ends : {E : Type 0} (given : Result (Option StraightEnds) E) → IfOk given (λ found. IfSome found (λ ends. IsFew config rewrites states query))
      → IfOk given (λ found. IfSome found (λ ends. ShowsFaults config rewrites deps (faults_by_ends query ends) query))
      → IfOk given (λ found. IfSome found (λ ends. (rtype : RrType) → IsBoundedWith (following config rewrites deps.least) query rtype))
      → IfOk given (λ found. IfSome found (λ ends. (rtype : RrType) (outcome : Option Leaf)
      → HasOutcome (following config rewrites deps.least) query rtype outcome ↔ IsOutcomeOf ends rtype outcome))
      → IfOk given (λ found. IfSome found (λ ends. ends.below ≡ true → (name : Labels) → NoOriginBetween config query name → IsFew config rewrites states name))
      → IfOk given (λ found. IfSome found (λ ends. ends.below ≡ true → (name : Labels) → NoOriginBetween config query name → ShowsFaults config rewrites deps (faults_by_ends query ends) name))
      → IfOk given (λ found. IfSome found (λ ends. ends.unnamed_below ≡ true → (tail : Labels) → IsUnnamedTail config query tail → IsFew config rewrites states (query ++ tail)))
      → IfOk given (λ found. IfSome found (λ ends. ends.unnamed_below ≡ true → (tail : Labels) → IsUnnamedTail config query tail
      → ShowsFaults config rewrites deps (faults_by_ends query ends) (query ++ tail)))
      → IfOk given (λ found. IfSome found (AreStraightEnds config rewrites states query))
  straight_ends (Ok None) few shown bounded outcomes few_below shown_below few_unnamed shown_unnamed = tt
  straight_ends (Ok (Some ends)) few shown bounded outcomes few_below shown_below few_unnamed shown_unnamed =
      record {
        few = few;
        learnt = sets.none_passes;
        followed = deps.least;
        in_force = sets.least;
        bounded = bounded;
        outcomes = outcomes;
        verdict = judged_for (faults_by_ends query ends) query (told_with_first query ends) few shown;
        verdict_below = λ below name between. judged_for (faults_by_ends query ends) name (told_with_first query ends) (few_below below name between) (shown_below below name between);
        verdict_unnamed = λ below tail is. judged_for (faults_by_ends query ends) (query ++ tail) (told_with_first query ends) (few_unnamed below tail is) (shown_unnamed below tail is);
      }
  straight_ends (Err fault) few shown bounded outcomes few_below shown_below few_unnamed shown_unnamed = tt
