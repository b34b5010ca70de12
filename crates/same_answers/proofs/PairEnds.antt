-- What the graphs of a query's walks, or their straight ends, tell of it is the verdict of its class; and each class has
-- one.
use Rattle.std.proofs.Common.{◌≡◌, ◌↔◌, ℕ, Bool, true, false, not, ◌&&◌, List, map, Contains, Option, Some, None, refl, sym, ap, ◌∙◌, subst, inl, inr, true≢false}
use Rattle.std.specs.Prelude.{if◌then◌else◌}
use Rattle.std.specs.List.{find}
use Rattle.std.specs.Option.{option_map_or}
use Rattle.std.proofs.lemmas.Bool.{and_from, and_parts}
use Rattle.dns_data.specs.Name.{Labels}
use Rattle.dns_data.specs.RrType.{types}
use Rattle.dns_data.specs.declared.rr_type.RrType.{RrType}
use Rattle.dns_data.proofs.Membership.{map_has, from_map}
use Rattle.dns_data.proofs.Searches.{found_there}
use Rattle.dns_data.proofs.Sets.{first_least, first_none}
use Rattle.graph_form.specs.Graph.{PlainGraph}
use Rattle.graph_form.proofs.Reached.{every_type}
use Rattle.net_model.specs.declared.config.Config.{Config}
use Rattle.net_model.specs.declared.walk.Leaf.{Leaf}
use Rattle.net_model.specs.declared.walk.Walk.{Walk}
use Rattle.net_model.specs.Learnt.{IsInForce}
use Rattle.net_model.specs.Step.{Setting, following}
use Rattle.net_model.specs.Tails.{is_overlong}
use Rattle.net_model.specs.Walk.{IsBoundedWith, IsWalk}
use Rattle.net_model.proofs.InForce.{one_in_force, some_in_force}
use Rattle.query_classes.proofs.Decided.{Decided, any_of, both, by_test, either, not_so, turned}
use Rattle.query_verdicts.specs.Queries.{AreStraightEnds, IsLeastGraph, limited_to}
use Rattle.query_verdicts.specs.Verdict.{PassesStates, SomeServerPasses}
use Rattle.query_verdicts.proofs.FaultsExist.{walks_exist}
use Rattle.query_verdicts.proofs.VerdictsExist.{passes_decided, server_decided}
use Rattle.straight_walks.specs.Ends.{IsOutcomeOf, ends_alike}
use Rattle.straight_walks.specs.declared.ends.StraightEnds.{StraightEnds}
use Rattle.straight_walks.proofs.SameOutcomes.{alike_decides}
use Rattle.walk_laws.specs.Outcome.{HasOutcome, outcome_of}
use Rattle.same_answers.specs.Alike.{AnswersAlike, AreBounded, HasOutcomeIn, IsBoundedIn}
use Rattle.same_answers.specs.Compared.{Compared}
use Rattle.same_answers.specs.Ends.{are_alike, are_within, leaves_of, graphs_alike, graphs_end, is_bounded}
use Rattle.same_answers.specs.GraphFound.{IsGraphFound, end_by_graphs}
use Rattle.same_answers.specs.Straight.{straight_end}
use Rattle.same_answers.specs.Verdict.{CanBeCompared, IsPairEnd, PassesInOne, SomeServerPassesInOne}
use Rattle.same_answers.specs.declared.graph_found.GraphFound.{GraphFound}
use Rattle.same_answers.specs.declared.graph_found.GraphFound.TheVariants.{Passed, Unlearnt, Walks}
use Rattle.same_answers.specs.declared.verdict.PairEnd.{PairEnd}
use Rattle.same_answers.specs.declared.verdict.PairEnd.TheVariants.{Equal, Apart, Unbounded, StatesPassed}
use Rattle.same_answers.proofs.GraphEnds.{bounded_by_ends, outcome_there, place_of_overlong, within_by_ends}

module _ (config : Config) (rewrites : ℕ) (query : Labels) where
  -- the outcomes of the query with the type are those of these ends
  abbrev pub AreEndsOf : RrType → List Leaf → Type 0
  AreEndsOf rtype ends =
      (outcome : Option Leaf) → HasOutcomeIn config rewrites query rtype outcome ↔ ((leaf : Leaf) × Contains ends leaf × (outcome_of leaf ≡ outcome))

  module _ (rtype : RrType) (followed : List Labels) (in_force : IsInForce config rewrites followed) where
    -- with the set in force, which is one
    in_setting : (outcome : Option Leaf) → HasOutcomeIn config rewrites query rtype outcome ↔ HasOutcome (following config rewrites followed) query rtype outcome
    in_setting outcome = (
      λ has.
          subst (λ (set : List Labels). HasOutcome (following config rewrites set) query rtype outcome)
          (one_in_force config rewrites has.followed followed has.in_force in_force) has.has,
      λ has. record { followed = followed; in_force = in_force; has = has },
    )

  -- the ends of a query's graph while the least set is followed have the query's outcomes
  pub ends_of_graph : (graph : PlainGraph) → IsLeastGraph config rewrites query graph → (rtype : RrType) → AreEndsOf rtype (leaves_of graph rtype)
  ends_of_graph graph least rtype outcome =
      let in_one = in_setting rtype least.followed least.in_force outcome in
      let by_ends = outcome_there (following config rewrites least.followed) query graph least.is_graph least.exact rtype outcome in
      (λ has. by_ends.0 (in_one.0 has), λ ends. in_one.1 (by_ends.1 ends))

  -- each query has ends that have its outcomes
  pub ends_exist : (rtype : RrType) → (ends : List Leaf) × AreEndsOf rtype ends
  ends_exist rtype =
      let (followed, in_force) = some_in_force config rewrites in
      let setting : Setting = following config rewrites followed in
      let (walks, has) = walks_exist setting rtype query in (
        map (λ (walk : Walk). walk.leaf) walks,
        λ outcome. (
          λ is.
              let (walk, is_walk, told) = (in_setting rtype followed in_force outcome).0 is in
              (walk.leaf, map_has (λ (walk : Walk). walk.leaf) walks walk (has.all walk is_walk), told),
          λ (leaf, among, told).
              let (walk, there, same) = from_map (λ (walk : Walk). walk.leaf) walks leaf among in
              (in_setting rtype followed in_force outcome).1 (walk, has.each walk there, ap outcome_of same ∙ told),
        ),
      )

  -- ---- whether the query is bounded

  -- a query is bounded exactly if its graph while the least set is followed is
  pub bounded_by_graph : (graph : PlainGraph) → IsLeastGraph config rewrites query graph → (is_bounded graph ≡ true) ↔ IsBoundedIn config rewrites query
  bounded_by_graph graph least =
      let by_ends = bounded_by_ends (following config rewrites least.followed) query graph least.is_graph least.exact in (
        λ told. record { followed = least.followed; in_force = least.in_force; bounded = by_ends.0 told },
        λ bounded.
            by_ends.1 (λ rtype.
            subst (λ (set : List Labels). IsBoundedWith (following config rewrites set) query rtype)
            (one_in_force config rewrites bounded.followed least.followed bounded.in_force least.in_force) (bounded.bounded rtype)),
      )

  -- and it is decided
  module _ (followed : List Labels) (in_force : IsInForce config rewrites followed) where
    abbrev MeetsOverlong : RrType → Type 0
    MeetsOverlong rtype = (walk : Walk) × IsWalk (following config rewrites followed) query rtype walk × (is_overlong walk.leaf ≡ true)

    overlong_decided : (rtype : RrType) → Decided (MeetsOverlong rtype)
    overlong_decided rtype =
        let (walks, has) = walks_exist (following config rewrites followed) rtype query in
        turned (λ (walk, among, e). (walk, has.each walk among, e)) (λ (walk, is_walk, e). (walk, has.all walk is_walk, e))
        (any_of (λ (walk : Walk). is_overlong walk.leaf ≡ true) (λ walk. by_test (is_overlong walk.leaf) (λ e. e) (λ e. e)) walks)

    none_overlong : (((rtype : RrType) × Contains types rtype × MeetsOverlong rtype) → ⊥) → IsBoundedIn config rewrites query
    none_overlong none =
        record {
          followed = followed;
          in_force = in_force;
          bounded = λ rtype walk place is_walk e. none (rtype, every_type rtype, (walk, is_walk, ap is_overlong e));
        }

    not_bounded : IsBoundedIn config rewrites query → ((rtype : RrType) × Contains types rtype × MeetsOverlong rtype) → ⊥
    not_bounded bounded (rtype, has, (walk, is_walk, e)) =
        let (place, is) = place_of_overlong walk.leaf e in
        let also =
        subst (λ (set : List Labels). IsWalk (following config rewrites set) query rtype walk)
        (one_in_force config rewrites followed bounded.followed in_force bounded.in_force) is_walk in
        bounded.bounded rtype walk place also is

    bounded_so : Decided (IsBoundedIn config rewrites query)
    bounded_so = turned none_overlong not_bounded (not_so (any_of MeetsOverlong overlong_decided types))

  -- whether no walk of the query takes more rewrites than are allowed is decided
  pub bounded_decided : Decided (IsBoundedIn config rewrites query)
  bounded_decided = let (followed, in_force) = some_in_force config rewrites in bounded_so followed in_force

-- ---- whether two have the same outcomes

module _ (two : Compared) (query : Labels) (rtype : RrType) (some others : List Leaf)
    (of_first : AreEndsOf two.first two.rewrites query rtype some) (of_second : AreEndsOf two.second two.rewrites query rtype others) where
  -- a query has the same outcomes in two configurations exactly if its ends in them have
  pub alike_by_ends : (are_alike some others ≡ true) ↔ AnswersAlike two query rtype
  alike_by_ends = (there, back) where
    there : are_alike some others ≡ true → AnswersAlike two query rtype
    there alike outcome =
        let parts = and_parts (are_within some others) (are_within others some) alike in (
          λ has.
              let (leaf, among, told) = (of_first outcome).0 has in
              let (other, in_others, same) = (within_by_ends some others).0 parts.0 leaf among in
              (of_second outcome).1 (other, in_others, same ∙ told),
          λ has.
              let (leaf, among, told) = (of_second outcome).0 has in
              let (other, in_some, same) = (within_by_ends others some).0 parts.1 leaf among in
              (of_first outcome).1 (other, in_some, same ∙ told),
        )

    back : AnswersAlike two query rtype → are_alike some others ≡ true
    back alike =
        and_from (are_within some others) (are_within others some)
        ((within_by_ends some others).1 (λ leaf has.
        (of_second (outcome_of leaf)).0 ((alike (outcome_of leaf)).0 ((of_first (outcome_of leaf)).1 (leaf, has, refl)))))
        ((within_by_ends others some).1 (λ leaf has.
        (of_first (outcome_of leaf)).0 ((alike (outcome_of leaf)).1 ((of_second (outcome_of leaf)).1 (leaf, has, refl)))))

-- ---- the verdict of a bounded query by tests that tell with which types it is alike in both

module _ (two : Compared) (query : Labels) (looked : CanBeCompared two query) (bounded : AreBounded two query)
    (test : RrType → Bool) (tells : (rtype : RrType) → (test rtype ≡ true) ↔ AnswersAlike two query rtype) where
  test_so : (b : Bool) → not b ≡ false → b ≡ true
  test_so true e = refl
  test_so false e = absurd (true≢false e)

  fails : (rtype : RrType) → (b : Bool) → test rtype ≡ b → (AnswersAlike two query rtype → ⊥) → not b ≡ true
  fails rtype true e differ = absurd (differ ((tells rtype).0 e))
  fails rtype false e differ = refl

  differs : (rtype : RrType) → not (test rtype) ≡ true → AnswersAlike two query rtype → ⊥
  differs rtype e alike = true≢false (sym e ∙ ap not ((tells rtype).1 alike))

  -- what the first type tells whose test fails, or that none does, is the end of the pair
  pub end_by_tests : (found : Option RrType) → found ≡ find (λ rtype. not (test rtype)) types → IsPairEnd two query (option_map_or Apart found Equal)
  end_by_tests None e = (
    looked.few,
    λ none. (bounded, λ rtype. (tells rtype).0 (test_so (test rtype) ((first_none (λ rtype. not (test rtype)) None e).0 refl rtype))),
  )
  end_by_tests (Some rtype) e = (
    looked,
    bounded,
    record {
      differ = differs rtype (found_there (λ rtype. not (test rtype)) types rtype (sym e)).1;
      first = λ other differ. first_least (λ rtype. not (test rtype)) (Some rtype) e other (fails other (test other) refl differ);
    },
  )

-- ---- the verdict by what is found in both

module _ (two : Compared) (query : Labels) where
  none_passes : (PassesStates two.first two.rewrites two.states query → ⊥) → (PassesStates two.second two.rewrites two.states query → ⊥)
      → PassesInOne two query → ⊥
  none_passes one other (inl passes) = one passes
  none_passes one other (inr passes) = other passes

  no_server_passes : (SomeServerPasses two.first two.rewrites two.states → ⊥) → (SomeServerPasses two.second two.rewrites two.states → ⊥)
      → SomeServerPassesInOne two → ⊥
  no_server_passes one other (inl passes) = one passes
  no_server_passes one other (inr passes) = other passes

  by_graphs : (first second : PlainGraph) → CanBeCompared two query → IsLeastGraph two.first two.rewrites query first
      → IsLeastGraph two.second two.rewrites query second → IsPairEnd two query (graphs_end first second)
  by_graphs first second looked of_first of_second = by (is_bounded first) (is_bounded second) refl refl where
    bounds_first : (is_bounded first ≡ true) ↔ IsBoundedIn two.first two.rewrites query
    bounds_first = bounded_by_graph two.first two.rewrites query first of_first

    bounds_second : (is_bounded second ≡ true) ↔ IsBoundedIn two.second two.rewrites query
    bounds_second = bounded_by_graph two.second two.rewrites query second of_second

    by : (one other : Bool) → is_bounded first ≡ one → is_bounded second ≡ other
        → IsPairEnd two query (if one && other then option_map_or Apart (find (λ rtype. not (graphs_alike first second rtype)) types) Equal else Unbounded)
    by true true e f =
        end_by_tests two query looked (bounds_first.0 e, bounds_second.0 f) (graphs_alike first second)
        (λ rtype. alike_by_ends two query rtype (leaves_of first rtype) (leaves_of second rtype)
        (ends_of_graph two.first two.rewrites query first of_first rtype) (ends_of_graph two.second two.rewrites query second of_second rtype))
        (find (λ rtype. not (graphs_alike first second rtype)) types) refl
    by true false e f = (looked, λ bounded. true≢false (sym (bounds_second.1 bounded.1) ∙ f))
    by false other e f = (looked, λ bounded. true≢false (sym (bounds_first.1 bounded.0) ∙ e))

  -- what was looked at in both configurations gives the end of the query
  pub end_by_found : (first second : GraphFound) → IsGraphFound (limited_to two.first two.rewrites two.states) query first
      → IsGraphFound (limited_to two.second two.rewrites two.states) query second → IsPairEnd two query (end_by_graphs first second)
  end_by_found Passed second one other = inl one
  end_by_found Unlearnt Passed one other = inr other
  end_by_found Unlearnt Unlearnt one other = (none_passes one.0 other.0, λ none. absurd (none (inl one.1)))
  end_by_found Unlearnt (Walks graph) one other = (none_passes one.0 other.0, λ none. absurd (none (inl one.1)))
  end_by_found (Walks graph) Passed one other = inr other
  end_by_found (Walks graph) Unlearnt one other = (none_passes one.0 other.0, λ none. absurd (none (inr other.1)))
  end_by_found (Walks first) (Walks second) one other =
      by_graphs first second (record { few = none_passes one.0 other.0; learnt = no_server_passes one.1 other.1 }) one.2 other.2

  -- ---- the verdict where walks go straight in both

  module _ (config : Config) (ends : StraightEnds) (are : AreStraightEnds config two.rewrites two.states query ends) where
    bounded_straight : IsBoundedIn config two.rewrites query
    bounded_straight = record { followed = are.followed; in_force = are.in_force; bounded = are.bounded }

    outcomes_straight : (rtype : RrType) (outcome : Option Leaf) → HasOutcomeIn config two.rewrites query rtype outcome ↔ IsOutcomeOf ends rtype outcome
    outcomes_straight rtype outcome =
        let in_one = in_setting config two.rewrites query rtype are.followed are.in_force outcome in
        let by_ends = are.outcomes rtype outcome in
        (λ has. by_ends.0 (in_one.0 has), λ told. in_one.1 (by_ends.1 told))

  -- the ends of straight walks in both configurations give the end of the query
  pub end_by_straight : (first second : StraightEnds) → AreStraightEnds two.first two.rewrites two.states query first
      → AreStraightEnds two.second two.rewrites two.states query second → IsPairEnd two query (straight_end first second)
  end_by_straight first second one other =
      end_by_tests two query (record { few = none_passes one.few other.few; learnt = no_server_passes one.learnt other.learnt })
      (bounded_straight two.first first one, bounded_straight two.second second other) (ends_alike first second) tells
      (find (λ rtype. not (ends_alike first second rtype)) types) refl
    where
      of_first : (rtype : RrType) (outcome : Option Leaf) → HasOutcomeIn two.first two.rewrites query rtype outcome ↔ IsOutcomeOf first rtype outcome
      of_first = outcomes_straight two.first first one

      of_second : (rtype : RrType) (outcome : Option Leaf) → HasOutcomeIn two.second two.rewrites query rtype outcome ↔ IsOutcomeOf second rtype outcome
      of_second = outcomes_straight two.second second other

      tells : (rtype : RrType) → (ends_alike first second rtype ≡ true) ↔ AnswersAlike two query rtype
      tells rtype = (
        λ alike outcome.
            let same = (alike_decides first second rtype).0 alike outcome in (
              λ has. (of_second rtype outcome).1 (same.0 ((of_first rtype outcome).0 has)),
              λ has. (of_first rtype outcome).1 (same.1 ((of_second rtype outcome).0 has)),
            ),
        λ alike.
            (alike_decides first second rtype).1 (λ outcome. (
              λ told. (of_second rtype outcome).0 ((alike outcome).0 ((of_first rtype outcome).1 told)),
              λ told. (of_first rtype outcome).0 ((alike outcome).1 ((of_second rtype outcome).1 told)),
            )),
      )

  -- ---- so each query has a verdict

  bounded_end : CanBeCompared two query → AreBounded two query → (end : PairEnd) × IsPairEnd two query end
  bounded_end looked bounded = (
    option_map_or Apart (find (λ rtype. not (test rtype)) types) Equal,
    end_by_tests two query looked bounded test
        (λ rtype. alike_by_ends two query rtype (of_first rtype).0 (of_second rtype).0 (of_first rtype).1 (of_second rtype).1)
        (find (λ rtype. not (test rtype)) types) refl,
  ) where
    of_first : (rtype : RrType) → (ends : List Leaf) × AreEndsOf two.first two.rewrites query rtype ends
    of_first = ends_exist two.first two.rewrites query

    of_second : (rtype : RrType) → (ends : List Leaf) × AreEndsOf two.second two.rewrites query rtype ends
    of_second = ends_exist two.second two.rewrites query

    test : RrType → Bool
    test rtype = are_alike (of_first rtype).0 (of_second rtype).0

  end_exists_compared : CanBeCompared two query → (end : PairEnd) × IsPairEnd two query end
  end_exists_compared looked = by (both (bounded_decided two.first two.rewrites query) (bounded_decided two.second two.rewrites query)) where
    by : Decided (AreBounded two query) → (end : PairEnd) × IsPairEnd two query end
    by (inl bounded) = bounded_end looked bounded
    by (inr not_both) = (Unbounded, (looked, not_both))

  few_end_exists : (PassesInOne two query → ⊥) → (end : PairEnd) × IsPairEnd two query end
  few_end_exists few = by (either (server_decided two.first two.rewrites two.states) (server_decided two.second two.rewrites two.states)) where
    by : Decided (SomeServerPassesInOne two) → (end : PairEnd) × IsPairEnd two query end
    by (inl some) = (Equal, (few, λ none. absurd (none some)))
    by (inr none) = end_exists_compared (record { few = few; learnt = none })

  -- each query has an end
  pub end_exists : (end : PairEnd) × IsPairEnd two query end
  end_exists = by (either (passes_decided two.first two.rewrites query two.states) (passes_decided two.second two.rewrites query two.states)) where
    by : Decided (PassesInOne two query) → (end : PairEnd) × IsPairEnd two query end
    by (inl passes) = (StatesPassed, passes)
    by (inr few) = few_end_exists few
