-- The classes of a subject as they are listed, and their views: these are all views, and the first representative that
-- passes is the first of all. So a run of `site` ends as it is to.
use Rattle.std.proofs.Common.{◌≡◌, ◌≢◌, ℕ, ◌<◌, List, [], ◌∷◌, ◌++◌, map, append_assoc, length, get_or, sym, ap, subst, ◌∙◌, inl, inr, arith}
use Rattle.std.specs.Prelude.{◌⊎◌, Contains, AllPairs}
use Rattle.std.specs.declared.cmp.Ordering.TheVariants.{Less}
use Rattle.std.proofs.lemmas.List.{length-map, get_or-map}
use Rattle.std.proofs.lemmas.List.Elements.{Contains-append_cases, Contains-append_right}
use Rattle.dns_data.specs.Name.{Labels}
use Rattle.dns_data.proofs.Membership.{map_has, from_map, has_first, first_or_later}
use Rattle.dns_data.proofs.OrderedLists.{never_before_itself}
use Rattle.graph_form.specs.Report.{Subject}
use Rattle.graph_form.proofs.FirstTypes.{pairs_across}
use Rattle.net_model.specs.declared.class.Class.{Class}
use Rattle.net_model.specs.Class.{class_cmp, IsRepresentative}
use Rattle.net_model.specs.Reading.{ground_of}
use Rattle.net_model.proofs.FaultOrder.{classes_total}
use Rattle.walk_laws.proofs.JoinedGround.{own_covers}
use Rattle.query_classes.specs.ClassList.{ListedClass, AreListed}
use Rattle.query_verdicts.specs.Carried.{whole_config}
use Rattle.query_verdicts.specs.Passed.{ClassPasses, SomeClassPasses, IsFirstPassed, IsFirstServerPassed}
use Rattle.query_verdicts.specs.Queries.{LimitedQueries, ServerPasses, limited_to, most_states, queries_of}
use Rattle.query_verdicts.proofs.ClassesJudged.{some_name}
use Rattle.query_verdicts.proofs.PassingNames.{class_passes}
use Rattle.report_json.specs.Sites.{sites_text}
use Rattle.site_checks.specs.Views.{IsView, AreViews, Site, site_findings}
use Rattle.site_checks.specs.declared.shown.SiteFindings.{SiteFindings}
use Rattle.site_checks.specs.declared.views.View.{View}
use Rattle.site_checks.proofs.OneViews.{one_view}
use Rattle.run_endings.specs.declared.ending.Ending.{Ending}
use Rattle.run_endings.specs.declared.status.Status.TheVariants.{Clean}
use Rattle.run_endings.specs.Endings.{with_output, no_memory}
use Rattle.report_run.specs.Budgets.{WithinStates}
use Rattle.groot_run.specs.Outcome.{TellsFindings, site_rewrites}
use Rattle.groot_run.proofs.Watched.{findings_of_sites}
use Rattle.groot_run.specs.ShownClasses.{NoListedPasses, class_of, AreViewsOfClasses, AreShown, IsFirstOf, EndsAmongClasses}

module _ (subject : Subject) (states : ℕ) (classes : List ListedClass) (are : AreListed subject.ground subject.below classes) where
  -- ---- the views

  module _ (views : List View) (of : AreViewsOfClasses (queries_of subject states) classes views) where
    is_view : (view : View) → Contains views view → IsView subject view
    is_view view has =
        let listed = (are.all (class_of view)).0 (subst (λ (cs : List ListedClass). Contains cs (class_of view)) of.of_classes (map_has class_of views view has)) in
        let ends = of.have_ends view has in
        record { is_class = listed.0; represents = listed.1; followed = ends.followed; in_force = ends.in_force; ends = ends.ends }

    has_view : (view : View) → IsView subject view → Contains views view
    has_view view is =
        let has = (are.all (class_of view)).1 (is.is_class, is.represents) in
        let found = from_map class_of views (class_of view) (subst (λ (cs : List ListedClass). Contains cs (class_of view)) (sym of.of_classes) has) in
        subst (Contains views) (one_view subject found.0 view (is_view found.0 found.1) is (ap (λ (listed : ListedClass). listed.class) found.2)) found.1

    ordered : AllPairs (λ a b. class_cmp a.class b.class ≡ Less) views
    ordered i j d before within =
        let long : length (map class_of views) ≡ length views = length-map views class_of in
        let one = get_or-map class_of views i d (class_of d) (omega arith) in
        let other = get_or-map class_of views j d (class_of d) within in
        let rising = subst (λ (cs : List ListedClass). AllPairs (λ a b. class_cmp a.class b.class ≡ Less) cs) (sym of.of_classes) are.ordered in
        subst (λ (b : ListedClass). class_cmp (get_or views i d).class b.class ≡ Less) other
        (subst (λ (a : ListedClass). class_cmp a.class (get_or (map class_of views) j (class_of d)).class ≡ Less) one
        (rising i j (class_of d) before (subst (λ (n : ℕ). j < n) (sym long) within)))

    -- the views of the listed classes are all views, in order
    pub all_views : AreViews subject views
    all_views = record {
      ordered = ordered;
      all = λ view. (is_view view, has_view view);
    }

  -- ---- representatives that pass

  is_listed : (class : Class) (query : Labels) → ClassPasses subject states class query → Contains classes (record { class = class; representative = query })
  is_listed class query it = (are.all (record { class = class; representative = query })).1 (it.is_class, it.represents)

  -- if no listed class has a representative that reaches too many pairs, no class of the subject has one
  pub no_class_passes : NoListedPasses (queries_of subject states) classes → SomeClassPasses subject states → ⊥
  no_class_passes none (class, query, it) = none (record { class = class; representative = query }) (is_listed class query it) it.passes

  -- the first of the listed classes that passes is the first class of the subject that does
  pub is_first_passed : (query : Labels) → IsFirstOf (queries_of subject states) classes query → IsFirstPassed subject states query
  is_first_passed query found = record { class = found.listed.class; passes = it; first = first } where
    there : Contains classes found.listed
    there = subst (λ (cs : List ListedClass). Contains cs found.listed) (sym found.splits) (Contains-append_right found.before (found.listed ∷ found.after) found.listed (has_first found.listed found.after))

    it : ClassPasses subject states found.listed.class query
    it = let listed = (are.all found.listed).0 there in
        record { is_class = listed.0; represents = subst (λ (n : Labels). IsRepresentative subject.ground found.listed.class n) (sym found.represents) listed.1; passes = found.passes }

    -- the class stands before those behind it
    before_later : (later : ListedClass) → Contains found.after later → class_cmp found.listed.class later.class ≡ Less
    before_later later has =
        let split : classes ≡ (found.before ++ found.listed ∷ []) ++ found.after = found.splits ∙ sym (append_assoc found.before (found.listed ∷ []) found.after) in
        pairs_across (λ (a b : ListedClass). class_cmp a.class b.class ≡ Less) (found.before ++ found.listed ∷ []) found.after
        (subst (λ (cs : List ListedClass). AllPairs (λ a b. class_cmp a.class b.class ≡ Less) cs) split are.ordered) found.listed later
        (Contains-append_right found.before (found.listed ∷ []) found.listed (has_first found.listed [])) has

    first : (other : Class) (name : Labels) → ClassPasses subject states other name → class_cmp other found.listed.class ≢ Less
    first other name also less =
        let listed : ListedClass = record { class = other; representative = name } in
        elim (Contains-append_cases found.before (found.listed ∷ found.after) listed
        (subst (λ (cs : List ListedClass). Contains cs listed) found.splits (is_listed other name also))) [
          | inl before ↦ found.none_before listed before also.passes
          | inr behind ↦ elim (first_or_later found.listed found.after listed behind) [
            | inl same ↦ never_before_itself class_cmp classes_total other
                (subst (λ (one : ListedClass). class_cmp other one.class ≡ Less) same less)
            | inr later ↦ never_before_itself class_cmp classes_total other
                (classes_total.trans other found.listed.class other less (before_later listed later))
          ]
        ]

-- ---- how a run ends

module _ (queries : LimitedQueries) (same : queries ≡ limited_to queries.config site_rewrites most_states) (classes : List ListedClass)
    (are : AreListed (ground_of queries.config) [] classes) where
  abbrev subject : Subject
  subject = whole_config queries.config site_rewrites

  -- queries that are the same within the limits of `site`
  limited : (P : LimitedQueries → Type 0) → P queries → P (limited_to queries.config site_rewrites most_states)
  limited P = subst P same

  none : NoListedPasses queries classes → SomeClassPasses subject most_states → ⊥
  none few = no_class_passes subject most_states classes are (limited (λ q. NoListedPasses q classes) few)

  -- if none of the listed representatives passes, no server's name does
  pub no_server : NoListedPasses queries classes → (name : Labels) → IsFirstServerPassed queries.config queries.rewrites queries.states name → ⊥
  no_server few name first =
      none few
      (class_passes queries.config site_rewrites most_states (ground_of queries.config) (own_covers queries.config)
      (some_name queries.config site_rewrites most_states name (limited (λ q. IsFirstServerPassed q.config q.rewrites q.states name) first)))

  -- a run that showed all classes to the checks ends with what they tell
  pub told : (olds news : List Site) → AreShown queries classes olds news → (ServerPasses queries → ⊥)
      → (ending : Ending) → ending ≡ with_output Clean (sites_text (map (site_findings []) news))
      → WithinStates queries.config site_rewrites (TellsFindings queries.config olds ending) ending
  told olds news shown clear ending is =
      let seen = shown.shown clear in
      let tells = findings_of_sites seen.views olds news seen.seen in
      inr (
        none shown.none_passes,
        record {
          views = seen.views;
          are_views = all_views subject most_states classes are seen.views (limited (λ q. AreViewsOfClasses q classes seen.views) seen.are_views);
          as_text = is ∙ ap (λ (told : List SiteFindings). with_output Clean (sites_text told)) tells;
        },
      )

  -- a run that ends among the classes ends at the first representative that passes, or because memory ran out
  pub ended : (P : Type 0) (ending : Ending) → EndsAmongClasses queries classes ending → WithinStates queries.config site_rewrites P ending ⊎ (ending ≡ no_memory)
  ended P ending (inl (query, first, is)) =
      inl (inl (query, is_first_passed subject most_states classes are query (limited (λ q. IsFirstOf q classes query) first), is))
  ended P ending (inr ran_out) = inr ran_out
