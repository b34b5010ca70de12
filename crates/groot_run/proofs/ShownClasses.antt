-- Classes whose views are shown, some after others: what checks have seen, and where a run ends among them.
use Rattle.std.proofs.Common.{◌≡◌, ℕ, suc, ◌+◌, ◌<◌, ◌≤◌, List, [], ◌∷◌, ◌++◌, append_assoc, append-nil, length, take, drop, get_or, Option, Some, refl, sym, ap, subst, ◌∙◌, inl, inr, arith}
use Rattle.std.specs.Prelude.{◌⊎◌, Contains}
use Rattle.std.proofs.Math.Seq.{drop-cons}
use Rattle.std.proofs.lemmas.List.{map-append, take-append-drop, take_more, take_all}
use Rattle.std.proofs.lemmas.List.Elements.{Contains-append_cases}
use Rattle.std.proofs.lemmas.List.Concat.{flat_map-append}
use Rattle.dns_data.specs.Name.{Labels}
use Rattle.dns_data.proofs.Membership.{none_in_nil, first_or_later}
use Rattle.graph_form.specs.Graph.{PlainGraph}
use Rattle.graph_form.specs.GraphOf.{IsGraphOf}
use Rattle.net_model.specs.declared.class.Class.{Class}
use Rattle.net_model.specs.declared.class.Class.TheVariants.{Exact, Below}
use Rattle.net_model.specs.Step.{Setting, following}
use Rattle.query_classes.specs.ClassList.{ListedClass, class_below, classes_of_row, classes_of_rows}
use Rattle.query_classes.specs.declared.tree.ClassRow.{ClassRow}
use Rattle.query_verdicts.specs.Queries.{LimitedQueries, IsLeastGraph, Passes, ServerPasses}
use Rattle.site_checks.specs.Ends.{AreEnds}
use Rattle.site_checks.specs.Views.{Site}
use Rattle.site_checks.specs.declared.views.View.{View}
use Rattle.site_checks.proofs.Seen.{nothing_seen, more_seen}
use Rattle.run_endings.specs.declared.ending.Ending.{Ending}
use Rattle.run_endings.specs.Endings.{no_memory}
use Rattle.report_run.specs.Budgets.{too_many_states}
use Rattle.groot_run.specs.ShownClasses.{NoListedPasses, class_of, HasEnds, AreViewsOfClasses, SawViews, AreShown, EndsAmongClasses}

-- ---- the classes of rows

-- the classes of the rows up to one are those of the rows before it, and then those of that row
classes_more : (rows : List ClassRow) (i : ℕ) (row : ClassRow) → i < length rows → row ≡ get_or rows i row
    → classes_of_rows (take (i + 1) rows) ≡ classes_of_rows (take i rows) ++ classes_of_row row
classes_more rows i row there is =
    ap classes_of_rows (take_more rows i row there ∙ ap (λ r. take i rows ++ r ∷ []) (sym is))
    ∙ flat_map-append classes_of_row (take i rows) (row ∷ [])
    ∙ ap (λ cs. classes_of_rows (take i rows) ++ cs) (append-nil (classes_of_row row))

-- the classes of rows are those of the rows before one, then those of that row, and then those of the rows behind it
classes_split : (rows : List ClassRow) (i : ℕ) (row : ClassRow) → i < length rows → row ≡ get_or rows i row
    → classes_of_rows rows ≡ classes_of_rows (take i rows) ++ (classes_of_row row ++ classes_of_rows (drop (i + 1) rows))
classes_split rows i row there is =
    let next : suc i ≡ i + 1 = omega arith in
    ap classes_of_rows (sym (take-append-drop i rows) ∙ ap (λ rest. take i rows ++ rest) (drop-cons rows i row there ∙ (λ j. sym is j ∷ drop (next j) rows)))
    ∙ flat_map-append classes_of_row (take i rows) (row ∷ drop (i + 1) rows)

-- a class with its representative
abbrev class_with : Class → Labels → ListedClass
class_with class representative = record { class = class; representative = representative }

-- the class of a row's name and the class below it, with a representative, are those of the row
classes_are : (row : ClassRow) (representative : Labels) (exact below : Class) → row.below ≡ Some representative → exact ≡ Exact row.name → below ≡ Below row.name
    → class_with exact row.name ∷ class_with below representative ∷ [] ≡ classes_of_row row
classes_are row representative exact below is same also =
    (λ i. class_with (same i) row.name ∷ class_with (also i) representative ∷ [])
    ∙ ap (λ (found : Option Labels). class_with (Exact row.name) row.name ∷ class_below row.name found) (sym is)

module _ (queries : LimitedQueries) where
  -- ---- representatives that pass

  none_of_none : NoListedPasses queries []
  none_of_none listed has = absurd (none_in_nil listed has)

  -- where none of some classes and none of some more passes, none of all does
  none_of_more : (classes more : List ListedClass) → NoListedPasses queries classes → NoListedPasses queries more → NoListedPasses queries (classes ++ more)
  none_of_more classes more none also listed has =
      elim (Contains-append_cases classes more listed has) [
        | inl first ↦ none listed first
        | inr later ↦ also listed later
      ]

  none_of_one : (class : Class) (query : Labels) → (Passes queries query → ⊥) → NoListedPasses queries (record { class = class; representative = query } ∷ [])
  none_of_one class query few listed has passes = elim (first_or_later (record { class = class; representative = query }) [] listed has) [
    | inl same ↦ few (subst (λ (one : ListedClass). Passes queries one.representative) (sym same) passes)
    | inr none ↦ none_in_nil listed none
  ]

  -- the views of some classes and of some more
  views_of_more : (classes more : List ListedClass) (views others : List View) → AreViewsOfClasses queries classes views → AreViewsOfClasses queries more others
      → AreViewsOfClasses queries (classes ++ more) (views ++ others)
  views_of_more classes more views others are also = record {
    of_classes = map-append class_of views others ∙ (λ i. are.of_classes i ++ also.of_classes i);
    have_ends = λ view has. elim (Contains-append_cases views others view has) [
      | inl first ↦ are.have_ends view first
      | inr later ↦ also.have_ends view later
    ];
  }

  -- ---- where a run ends

  -- a run that ends among some classes ends among these and more
  pub ends_before : (classes more : List ListedClass) (ending : Ending) → EndsAmongClasses queries classes ending → EndsAmongClasses queries (classes ++ more) ending
  ends_before classes more ending (inl (query, first, is)) =
      inl (
        query,
        record {
          before = first.before;
          listed = first.listed;
          after = first.after ++ more;
          splits = ap (λ cs. cs ++ more) first.splits ∙ append_assoc first.before (first.listed ∷ first.after) more;
          none_before = first.none_before;
          represents = first.represents;
          passes = first.passes;
        },
        is,
      )
  ends_before classes more ending (inr ran_out) = inr ran_out

  -- a run that ends among classes ends among them behind classes of which none passes
  pub ends_behind : (classes more : List ListedClass) (ending : Ending) → NoListedPasses queries classes → EndsAmongClasses queries more ending
      → EndsAmongClasses queries (classes ++ more) ending
  ends_behind classes more ending none (inl (query, first, is)) =
      inl (
        query,
        record {
          before = classes ++ first.before;
          listed = first.listed;
          after = first.after;
          splits = ap (λ cs. classes ++ cs) first.splits ∙ sym (append_assoc classes first.before (first.listed ∷ first.after));
          none_before = none_of_more classes first.before none first.none_before;
          represents = first.represents;
          passes = first.passes;
        },
        is,
      )
  ends_behind classes more ending none (inr ran_out) = inr ran_out

  -- a run ends at a class whose representative passes
  pub ends_there : (class : Class) (query : Labels) (ending : Ending) → Passes queries query → (ending ≡ too_many_states query) ⊎ (ending ≡ no_memory)
      → EndsAmongClasses queries (record { class = class; representative = query } ∷ []) ending
  ends_there class query ending passes (inl is) =
      inl (
        query,
        record {
          before = [];
          listed = record { class = class; representative = query };
          after = [];
          splits = refl;
          none_before = none_of_none;
          represents = refl;
          passes = passes;
        },
        is,
      )
  ends_there class query ending passes (inr ran_out) = inr ran_out

  -- a run that ends at the class of a row's name alone ends among the classes of the row
  pub ends_exact : (row : ClassRow) (exact : Class) (ending : Ending) → exact ≡ Exact row.name → EndsAmongClasses queries (class_with exact row.name ∷ []) ending
      → EndsAmongClasses queries (classes_of_row row) ending
  ends_exact row exact ending same ends =
      ends_before (class_with (Exact row.name) row.name ∷ []) (class_below row.name row.below) ending
      (subst (λ (class : Class). EndsAmongClasses queries (class_with class row.name ∷ []) ending) same ends)

  -- a run that ends at the class below a row's name, if that of the name alone doesn't pass, ends among the row's classes
  pub ends_below : (row : ClassRow) (representative : Labels) (exact below : Class) (ending : Ending) → row.below ≡ Some representative → exact ≡ Exact row.name
      → below ≡ Below row.name → NoListedPasses queries (class_with exact row.name ∷ []) → EndsAmongClasses queries (class_with below representative ∷ []) ending
      → EndsAmongClasses queries (classes_of_row row) ending
  ends_below row representative exact below ending is same also none ends =
      subst (λ (classes : List ListedClass). EndsAmongClasses queries classes ending) (classes_are row representative exact below is same also)
      (ends_behind (class_with exact row.name ∷ []) (class_with below representative ∷ []) ending none ends)

  -- a run that ends among the classes of the next row ends among those of the rows up to it
  pub ends_at_row : (rows : List ClassRow) (i : ℕ) (row : ClassRow) (ending : Ending) → i < length rows → row ≡ get_or rows i row
      → NoListedPasses queries (classes_of_rows (take i rows)) → EndsAmongClasses queries (classes_of_row row) ending → EndsAmongClasses queries (classes_of_rows rows) ending
  ends_at_row rows i row ending there is none ends =
      let rest = classes_of_rows (drop (i + 1) rows) in
      subst (λ (classes : List ListedClass). EndsAmongClasses queries classes ending) (sym (classes_split rows i row there is))
      (ends_behind (classes_of_rows (take i rows)) (classes_of_row row ++ rest) ending none (ends_before (classes_of_row row) rest ending ends))

  -- ---- what checks have seen

  -- checks were shown the views of no class
  pub shown_none : (all : List Site) → AreShown queries [] all all
  shown_none all = record {
    none_passes = none_of_none;
    shown = λ clear. record {
      views = [];
      are_views = record { of_classes = refl; have_ends = λ view has. absurd (none_in_nil view has) };
      seen = nothing_seen _ _ _ all;
    };
  }

  -- checks that were shown the views of some classes and then of some more were shown those of both
  pub shown_more : (classes more : List ListedClass) (a b c : List Site) → AreShown queries classes a b → AreShown queries more b c
      → AreShown queries (classes ++ more) a c
  shown_more classes more a b c first next = record {
    none_passes = none_of_more classes more first.none_passes next.none_passes;
    shown = λ clear.
        let one = first.shown clear in
        let other = next.shown clear in
        record {
          views = one.views ++ other.views;
          are_views = views_of_more classes more one.views other.views one.are_views other.are_views;
          seen = more_seen _ _ _ one.views other.views a b c one.seen other.seen;
        };
  }

  -- checks were shown the view of one class, whose representative doesn't pass
  pub shown_view : (class : Class) (query : Labels) (view : View) (a b : List Site) → (Passes queries query → ⊥) → view.class ≡ class → view.query ≡ query
      → HasEnds queries view → SawViews (view ∷ []) a b → AreShown queries (record { class = class; representative = query } ∷ []) a b
  shown_view class query view a b few of_class of_query has seen = record {
    none_passes = none_of_one class query few;
    shown = λ clear. record {
      views = view ∷ [];
      are_views = record { of_classes = λ i. record { class = of_class i; representative = of_query i } ∷ []; have_ends = have };
      seen = seen;
    };
  } where
    have : (other : View) → Contains (view ∷ []) other → HasEnds queries other
    have other among = elim (first_or_later view [] other among) [
      | inl same ↦ subst (HasEnds queries) same has
      | inr none ↦ absurd (none_in_nil other none)
    ]

  -- where the name of some server passes, none need be shown
  pub shown_no_view : (class : Class) (query : Labels) (all : List Site) → (Passes queries query → ⊥) → ServerPasses queries
      → AreShown queries (record { class = class; representative = query } ∷ []) all all
  shown_no_view class query all few passes = record { none_passes = none_of_one class query few; shown = λ clear. absurd (clear passes) }

  -- checks were shown the view of one class, whose representative doesn't pass, by the graph of its walks
  pub shown_one : (class : Class) (query : Labels) (graph : PlainGraph) (view : View) (a b : List Site) → IsLeastGraph queries.config queries.rewrites query graph
      → (Passes queries query → ⊥) → view.class ≡ class → view.query ≡ query
      → ((setting : Setting) → IsGraphOf setting query graph → AreEnds setting query view.ends)
      → SawViews (view ∷ []) a b → AreShown queries (record { class = class; representative = query } ∷ []) a b
  shown_one class query graph view a b is few of_class of_query ends seen =
      let setting : Setting = following queries.config queries.rewrites is.followed in
      shown_view class query view a b few of_class of_query
      (record { followed = is.followed; in_force = is.in_force; ends = subst (λ (name : Labels). AreEnds setting name view.ends) (sym of_query) (ends setting is.is_graph) })
      seen

  -- ---- of the classes of a row

  -- checks that were shown the class of a row's name alone, and then the class below, were shown the whole row
  pub shown_both : (row : ClassRow) (representative : Labels) (exact below : Class) (a b c : List Site) → row.below ≡ Some representative → exact ≡ Exact row.name
      → below ≡ Below row.name → AreShown queries (class_with exact row.name ∷ []) a b
      → AreShown queries (class_with below representative ∷ []) b c → AreShown queries (classes_of_row row) a c
  shown_both row representative exact below a b c is same also first next =
      subst (λ (classes : List ListedClass). AreShown queries classes a c) (classes_are row representative exact below is same also)
      (shown_more (class_with exact row.name ∷ []) (class_with below representative ∷ []) a b c first next)

  -- ---- of the classes of rows

  -- once the next row was shown too, the classes of one row more were shown
  pub shown_row : (rows : List ClassRow) (i : ℕ) (row : ClassRow) (a b c : List Site) → i < length rows → row ≡ get_or rows i row
      → AreShown queries (classes_of_rows (take i rows)) a b → AreShown queries (classes_of_row row) b c
      → AreShown queries (classes_of_rows (take (i + 1) rows)) a c
  shown_row rows i row a b c there is first next =
      subst (λ (classes : List ListedClass). AreShown queries classes a c) (sym (classes_more rows i row there is))
      (shown_more (classes_of_rows (take i rows)) (classes_of_row row) a b c first next)

  -- once as many rows as there are were shown, the classes of all rows were shown
  pub shown_all : (rows : List ClassRow) (i : ℕ) (a b : List Site) → length rows ≤ i → AreShown queries (classes_of_rows (take i rows)) a b
      → AreShown queries (classes_of_rows rows) a b
  shown_all rows i a b past shown = subst (λ (some : List ClassRow). AreShown queries (classes_of_rows some) a b) (take_all i rows past) shown
