-- What `same` gives of two configurations there is: whether both bound a query, and whether it has the same outcomes in
-- both, is decided, since its walks are a list.
use Rattle.std.proofs.Common.{◌≡◌, ◌∙◌, ◌⊎◌, ◌↔◌, ℕ, ◌+◌, ◌<◌, true, List, [], map, length, Contains, Option, Less, refl, sym, ap, subst, inl, inr, arith, true≢false}
use Rattle.std.specs.Cmp.{IsTotalOrder}
use Rattle.std.specs.Ordering.{nat_cmp}
use Rattle.std.specs.declared.cmp.Ordering.{Ordering}
use Rattle.std.proofs.lemmas.Bool.{cases_lt}
use Rattle.std.proofs.lemmas.Bool.Decides.{nat_tests}
use Rattle.std.proofs.lemmas.Cmp.{nat_cmp_total, on_total}
use Rattle.dns_data.specs.Name.{Labels}
use Rattle.dns_data.specs.RrType.{number_of, types}
use Rattle.dns_data.specs.declared.rr_type.RrType.{RrType}
use Rattle.dns_data.proofs.LeastItems.{least_or_none}
use Rattle.dns_data.proofs.Membership.{map_has, from_map}
use Rattle.dns_data.proofs.Names.{all_so}
use Rattle.graph_form.proofs.Reached.{every_type}
use Rattle.report_run.specs.Budgets.{too_many_states}
use Rattle.groot_run.specs.Outcome.{Compares, HasMoreNamesInBoth, sameness_written}
use Rattle.label_graph.specs.LiveSet.{IsClosed}
use Rattle.net_model.specs.declared.class.Class.{Class}
use Rattle.net_model.specs.declared.config.Config.{Config}
use Rattle.net_model.specs.declared.walk.Leaf.{Leaf}
use Rattle.net_model.specs.declared.walk.Walk.{Walk}
use Rattle.net_model.specs.Class.{IsRepresentative, class_name}
use Rattle.net_model.specs.Learnt.{IsInForce}
use Rattle.net_model.specs.Step.{following}
use Rattle.net_model.specs.Tails.{is_overlong}
use Rattle.net_model.specs.Tree.{HasMoreThan, IsInPart}
use Rattle.net_model.specs.Walk.{IsBoundedWith}
use Rattle.net_model.proofs.InForce.{some_in_force, one_in_force}
use Rattle.query_classes.specs.Children.{IsInTree}
use Rattle.query_classes.proofs.Decided.{Decided, turned, both, either, not_so, any_of, among}
use Rattle.query_verdicts.proofs.CoveringGrounds.{is_closed, root_in_tree}
use Rattle.query_verdicts.proofs.Decided.{same_bool, same_leaf, same_option}
use Rattle.query_verdicts.proofs.FaultsExist.{HasWalks, walks_exist}
use Rattle.query_verdicts.proofs.VerdictsExist.{passes_decided}
use Rattle.run_endings.specs.declared.ending.Ending.{Ending}
use Rattle.run_endings.specs.Endings.{too_many_names}
use Rattle.same_answers.specs.Alike.{AnswersAlike, AreBounded, HasOutcomeIn, IsBoundedIn}
use Rattle.same_answers.specs.Compared.{Compared, joint}
use Rattle.same_answers.specs.Passed.{IsFirstPassedInOne, SomeClassPassesInOne}
use Rattle.same_answers.specs.Sameness.{IsSameness}
use Rattle.same_answers.specs.Verdict.{IsFirstApart, PassesInOne}
use Rattle.same_answers.specs.declared.sameness.Sameness.{Sameness}
use Rattle.same_answers.specs.declared.sameness.Sameness.TheVariants.{Same, Apart}
use Rattle.same_answers.proofs.GraphEnds.{place_of_overlong}
use Rattle.same_answers.proofs.Comparing.{covers_first, representative_is_name, alike_by_classes}
use Rattle.walk_laws.specs.Outcome.{outcome_of, HasOutcome}
use Rattle.outcome_laws.proofs.ClassesDecided.{test_of, by_test_of, test_of_by, NoClassWith, names_listed, more_names, first_class_with}
use Rattle.outcome_laws.proofs.TreeListed.{below_exist}

-- ---- overlong walks

module _ (config : Config) (rewrites : ℕ) (query : Labels) where
  -- with this set in force a walk with some type ends overlong
  abbrev IsLong : List Labels → Type 0
  IsLong followed =
      (rtype : RrType) × Contains types rtype
      × ((walk : Walk) × Contains (walks_exist (following config rewrites followed) rtype query).0 walk × (is_overlong walk.leaf ≡ true))

  long_decided : (followed : List Labels) → Decided (IsLong followed)
  long_decided followed =
      any_of (λ rtype. (walk : Walk) × Contains (walks_exist (following config rewrites followed) rtype query).0 walk × (is_overlong walk.leaf ≡ true))
      (λ rtype. any_of (λ walk. is_overlong walk.leaf ≡ true) (λ walk. same_bool (is_overlong walk.leaf) true)
      (walks_exist (following config rewrites followed) rtype query).0)
      types

  -- whether the configuration bounds the query is decided
  bounded_decided : Decided (IsBoundedIn config rewrites query)
  bounded_decided =
      let (followed, in_force) = some_in_force config rewrites in
      turned (there followed in_force) (back followed in_force) (not_so (long_decided followed))
    where
      there : (followed : List Labels) → IsInForce config rewrites followed → (IsLong followed → ⊥) → IsBoundedIn config rewrites query
      there followed in_force short =
          record {
            followed = followed;
            in_force = in_force;
            bounded = λ rtype walk place is e.
                short (rtype, every_type rtype, (walk, (walks_exist (following config rewrites followed) rtype query).1.all walk is, ap is_overlong e));
          }

      back : (followed : List Labels) → IsInForce config rewrites followed → IsBoundedIn config rewrites query → IsLong followed → ⊥
      back followed in_force bounded (rtype, some, (walk, has, long)) =
          let same : bounded.followed ≡ followed = one_in_force config rewrites bounded.followed followed bounded.in_force in_force in
          let of_set : IsBoundedWith (following config rewrites followed) query rtype =
          subst (λ (f : List Labels). IsBoundedWith (following config rewrites f) query rtype) same (bounded.bounded rtype) in
          let (place, e) = place_of_overlong walk.leaf long in
          of_set walk place ((walks_exist (following config rewrites followed) rtype query).1.each walk has) e

  -- ---- outcomes

  -- the outcomes of the query with a type are a list
  outcomes_listed : (rtype : RrType) → (all : List (Option Leaf)) × ((outcome : Option Leaf) → Contains all outcome ↔ HasOutcomeIn config rewrites query rtype outcome)
  outcomes_listed rtype = let (followed, in_force) = some_in_force config rewrites in by followed in_force (walks_exist (following config rewrites followed) rtype query) where
    by : (followed : List Labels) → IsInForce config rewrites followed → (walks : List Walk) × HasWalks (following config rewrites followed) query rtype walks
        → (all : List (Option Leaf)) × ((outcome : Option Leaf) → Contains all outcome ↔ HasOutcomeIn config rewrites query rtype outcome)
    by followed in_force (walks, are) = (
      map (λ (walk : Walk). outcome_of walk.leaf) walks,
      λ outcome. (
        λ has.
            let (walk, among, is) = from_map (λ (walk : Walk). outcome_of walk.leaf) walks outcome has in
            record { followed = followed; in_force = in_force; has = (walk, are.each walk among, is) },
        λ is.
            let same : is.followed ≡ followed = one_in_force config rewrites is.followed followed is.in_force in_force in
            let (walk, is_walk, e) = subst (λ (f : List Labels). HasOutcome (following config rewrites f) query rtype outcome) same is.has in
            subst (Contains (map (λ (walk : Walk). outcome_of walk.leaf) walks)) e (map_has (λ (walk : Walk). outcome_of walk.leaf) walks walk (are.all walk is_walk)),
      ),
    )

-- whether two lists of outcomes have the same ones is decided
within_decided : (one other : List (Option Leaf)) → Decided ((outcome : Option Leaf) → Contains one outcome → Contains other outcome)
within_decided one other =
    turned
    (λ none outcome has. by outcome has none (among (same_option same_leaf) other outcome))
    (λ all (outcome, has, fails). fails (all outcome has))
    (not_so (any_of (λ outcome. Contains other outcome → ⊥) (λ outcome. not_so (among (same_option same_leaf) other outcome)) one))
  where
    by : (outcome : Option Leaf) → Contains one outcome → (((x : Option Leaf) × Contains one x × (Contains other x → ⊥)) → ⊥)
        → Decided (Contains other outcome) → Contains other outcome
    by outcome has none (inl there) = there
    by outcome has none (inr fails) = absurd (none (outcome, has, fails))

module _ (two : Compared) where
  -- whether the query has the same outcomes with a type in both is decided
  alike_decided : (query : Labels) (rtype : RrType) → Decided (AnswersAlike two query rtype)
  alike_decided query rtype =
      let (one, are) = outcomes_listed two.first two.rewrites query rtype in
      let (other, also) = outcomes_listed two.second two.rewrites query rtype in
      turned
      (λ (there, back) outcome. (
        (λ has. (also outcome).0 (there outcome ((are outcome).1 has))),
        (λ has. (are outcome).0 (back outcome ((also outcome).1 has))),
      ))
      (λ alike. (
        (λ outcome has. (also outcome).1 ((alike outcome).0 ((are outcome).0 has))),
        (λ outcome has. (are outcome).1 ((alike outcome).1 ((also outcome).0 has))),
      ))
      (both (within_decided one other) (within_decided other one))

  -- both bound the query, and it has other outcomes in one of them with some type
  abbrev IsApart : Labels → Type 0
  IsApart query = AreBounded two query × ((rtype : RrType) × Contains types rtype × (AnswersAlike two query rtype → ⊥))

  apart_decided : (query : Labels) → Decided (IsApart query)
  apart_decided query =
      both (both (bounded_decided two.first two.rewrites query) (bounded_decided two.second two.rewrites query))
      (any_of (λ rtype. AnswersAlike two query rtype → ⊥) (λ rtype. not_so (alike_decided query rtype)) types)

  -- ---- the first type

  type_cmp : RrType → RrType → Ordering
  type_cmp a b = nat_cmp (number_of a) (number_of b)

  type_total : IsTotalOrder type_cmp
  unfolding type_cmp
  type_total = on_total number_of nat_cmp_total

  less_is : (a b : ℕ) → a < b → nat_cmp a b ≡ Less
  less_is a b less = grind (arith, nat_tests)

  first_type : (query : Labels) (some : RrType) → (AnswersAlike two query some → ⊥) → (rtype : RrType) × IsFirstApart two query rtype
  unfolding type_cmp
  first_type query some differ =
      elim (least_or_none type_cmp type_total (λ rtype. test_of (not_so (alike_decided query rtype))) types) [
        | inl none ↦ absurd (true≢false (sym (test_of_by (not_so (alike_decided query some)) differ) ∙ none some (every_type some)))
        | inr (least, first) ↦ (
          least,
          record {
            differ = by_test_of (not_so (alike_decided query least)) first.passes;
            first = λ other also. elim (cases_lt (number_of other) (number_of least)) [
              | inl less ↦ absurd (first.none_before other (every_type other) (test_of_by (not_so (alike_decided query other)) also)
                  (less_is (number_of other) (number_of least) less))
              | inr not_less ↦ not_less
            ];
          },
        )
      ]

  -- ---- what is told

  closed : IsClosed (joint two)
  closed = is_closed two.first (joint two) (covers_first two)

  in_tree : IsInTree (joint two) []
  in_tree = root_in_tree two.first (joint two) (covers_first two)

  in_part : (name : Labels) → IsInTree (joint two) name → IsInPart (joint two) [] name
  in_part name is = record { named = is.0; is_name = is.1; within = refl }

  -- one thing is told of the two: that they are the same, or the first difference
  sameness_exists : (sameness : Sameness) × IsSameness two sameness
  sameness_exists =
      elim (first_class_with (joint two) closed [] in_tree IsApart apart_decided) [
        | inl (query, first) ↦ (
            let (some, among_types, differs) = first.has.1 in
            let (rtype, is_first) = first_type query some differs in
            let tree : IsInTree (joint two) (class_name first.class) = (first.is_class.named, first.is_class.is_name) in (
              Apart query rtype,
              record {
                class = first.class;
                apart = record { is_class = tree; represents = first.represents; bounded = first.has.0; differ = (some, differs) };
                is_name = representative_is_name two first.class query tree first.represents;
                first_class = λ other name also.
                    first.first other name (in_part (class_name other) also.is_class) also.represents (also.bounded, (also.differ.0, every_type also.differ.0, also.differ.1));
                first_type = is_first;
              },
            ))
        | inr none ↦ (
            let (part, is_part) = names_listed (joint two) closed [] in_tree in
            let (below, are_below) = below_exist (joint two) closed part in (
              Same (length part + length below) (length part),
              (
                record { part = part; below = below; is_part = is_part; are_below = are_below; counts_names = refl; counts_classes = refl },
                (alike_by_classes two).1 (λ class query tree represents bounded rtype. by_none none class query tree represents bounded rtype (alike_decided query rtype)),
              ),
            ))
      ]
    where
      by_none : NoClassWith (joint two) [] IsApart → (class : Class) (query : Labels) → IsInTree (joint two) (class_name class) → IsRepresentative (joint two) class query
          → AreBounded two query → (rtype : RrType) → Decided (AnswersAlike two query rtype) → AnswersAlike two query rtype
      by_none none class query tree represents bounded rtype (inl alike) = alike
      by_none none class query tree represents bounded rtype (inr differ) =
          absurd (none class query (in_part (class_name class) tree) represents (bounded, (rtype, every_type rtype, differ)))

  -- ---- the limits

  passes_either : (query : Labels) → Decided (PassesInOne two query)
  passes_either query = either (passes_decided two.first two.rewrites query two.states) (passes_decided two.second two.rewrites query two.states)

  first_passed : ((query : Labels) × IsFirstPassedInOne two query) ⊎ (SomeClassPassesInOne two → ⊥)
  first_passed =
      elim (first_class_with (joint two) closed [] in_tree (PassesInOne two) passes_either) [
        | inl (query, first) ↦ inl (
          query,
          record {
            class = first.class;
            passes = record { is_class = (first.is_class.named, first.is_class.is_name); represents = first.represents; passes = first.has };
            first = λ other name also. first.first other name (in_part (class_name other) also.is_class) also.represents also.passes;
          },
        )
        | inr none ↦ inr (λ (class, query, also). none class query (in_part (class_name class) also.is_class) also.represents also.passes)
      ]

  more_in_both : (limit : ℕ) → Decided (HasMoreNamesInBoth two limit)
  more_in_both limit = turned there back (more_names (joint two) closed [] in_tree limit) where
    there : HasMoreThan (IsInPart (joint two) []) limit → HasMoreNamesInBoth two limit
    there more =
        record {
          items = more.items;
          more = more.more;
          differ = more.differ;
          each = all_so (IsInPart (joint two) []) (IsInTree (joint two)) more.items (λ name here. (here.named, here.is_name)) more.each;
        }

    back : HasMoreNamesInBoth two limit → HasMoreThan (IsInPart (joint two) []) limit
    back more =
        record {
          items = more.items;
          more = more.more;
          differ = more.differ;
          each = all_so (IsInTree (joint two)) (IsInPart (joint two) []) more.items in_part more.each;
        }

  -- what `same` gives of two configurations there is
  pub same_ends : (limit : ℕ) → (ending : Ending) × Compares limit two ending
  same_ends limit =
      elim (more_in_both limit) [
        | inl more ↦ (too_many_names limit, inl (more, refl))
        | inr not_more ↦ elim first_passed [
          | inl (query, first) ↦ (too_many_states query, inr (not_more, inl (query, first, refl)))
          | inr none ↦ (
              let (sameness, is) = sameness_exists in
              (sameness_written sameness, inr (not_more, inr (none, record { sameness = sameness; is_sameness = is; as_line = refl }))))
        ]
      ]
