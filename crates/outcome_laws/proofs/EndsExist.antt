-- What `check`, `drill`, `site`, `classes` and `scope` give of a configuration there is: whether a limit is passed is
-- decided, and if none is there is a report, or a list of views or of classes.
use Rattle.std.proofs.Common.{◌≡◌, ◌⊎◌, ℕ, Bool, true, false, List, [], ◌∷◌, map, Contains, Less, refl, sym, subst, inl, inr}
use Rattle.std.proofs.lemmas.List.Elements.{Contains-append_right}
use Rattle.dns_data.specs.Name.{Labels, IsName}
use Rattle.dns_data.specs.declared.rr_type.RrType.{RrType}
use Rattle.dns_data.proofs.Membership.{has_first, has_later, map_has, from_map, pairs_of_images}
use Rattle.dns_data.proofs.Names.{all_so}
use Rattle.graph_form.specs.Report.{Subject}
use Rattle.report_run.specs.Budgets.{HasMoreNames, WithinNames, WithinStates, too_many_states}
use Rattle.groot_run.specs.Outcome.{IsReported, Checks, IsDrilled, Drills, TellsFindings, ShowsClasses, IsClassList, ListsClasses, EndsBehind, Scopes, ScopesEach, reported, drilled, listed, findings_written, drill_rewrites, site_rewrites, scope_rewrites, scope_of, scope_written, with_scope, own_sites}
use Rattle.job_scope.proofs.Scopes.{is_covered}
use Rattle.label_graph.specs.LiveSet.{IsClosed}
use Rattle.net_model.specs.declared.config.Config.{Config}
use Rattle.net_model.specs.declared.walk.Walk.{Walk}
use Rattle.net_model.specs.Class.{class_cmp}
use Rattle.net_model.specs.Learnt.{IsInForce}
use Rattle.net_model.specs.Nearest.{server_names}
use Rattle.net_model.specs.Reading.{ground_of}
use Rattle.net_model.specs.Step.{following}
use Rattle.net_model.specs.Tree.{HasMoreThan, IsInPart}
use Rattle.net_model.specs.Walk.{AreWalks}
use Rattle.net_model.proofs.InForce.{some_in_force}
use Rattle.query_classes.specs.Children.{IsInTree}
use Rattle.query_classes.specs.ClassList.{ListedClass, AreListed}
use Rattle.query_classes.proofs.Decided.{Decided, turned}
use Rattle.query_verdicts.specs.Carried.{whole_config}
use Rattle.query_verdicts.specs.Passed.{SomeClassPasses, IsFirstPassed}
use Rattle.query_verdicts.specs.Queries.{most_states}
use Rattle.query_verdicts.specs.Subjects.{IsCovering}
use Rattle.query_verdicts.specs.Verdict.{PassesStates}
use Rattle.query_verdicts.proofs.CoveringGrounds.{is_closed, root_in_tree}
use Rattle.query_verdicts.proofs.VerdictsExist.{passes_decided}
use Rattle.run_endings.specs.declared.ending.Ending.{Ending}
use Rattle.run_endings.specs.declared.status.Status.TheVariants.{Clean}
use Rattle.run_endings.specs.Endings.{too_many_names, with_output, writes_nothing}
use Rattle.site_checks.specs.Ends.{ends_of}
use Rattle.site_checks.specs.Views.{AreViews, IsView, Site}
use Rattle.site_checks.specs.declared.views.View.{View}
use Rattle.site_checks.proofs.OneViews.{one_view}
use Rattle.walk_laws.proofs.JoinedGround.{own_covers}
use Rattle.outcome_laws.proofs.ClassesDecided.{more_names, classes_listed, first_class_with}
use Rattle.outcome_laws.proofs.ReportExists.{config_has_report, subject_has_report}
use Rattle.outcome_laws.proofs.WalksCounted.{all_walks_exist, first_with}

module _ (subject : Subject) (covering : IsCovering subject) where
  closed : IsClosed subject.ground
  closed = is_closed subject.config subject.ground covering.covers

  -- whether there are more names than so many is decided
  more_in_part : (limit : ℕ) → Decided (HasMoreThan (IsInPart subject.ground subject.below) limit)
  more_in_part = more_names subject.ground closed subject.below covering.in_tree

  -- the classes of the subject, in order
  all_classes : (classes : List ListedClass) × AreListed subject.ground subject.below classes
  all_classes = classes_listed subject.ground closed subject.below covering.in_tree

  -- some representative is the first that reaches too many pairs, or none does
  first_or_none : ((query : Labels) × IsFirstPassed subject most_states query) ⊎ (SomeClassPasses subject most_states → ⊥)
  first_or_none =
      elim (first_class_with subject.ground closed subject.below covering.in_tree (PassesStates subject.config subject.rewrites most_states)
      (λ query. passes_decided subject.config subject.rewrites query most_states)) [
        | inl (query, first) ↦ inl (
          query,
          record {
            class = first.class;
            passes = record { is_class = first.is_class; represents = first.represents; passes = first.has };
            first = λ other name also. first.first other name also.is_class also.represents also.passes;
          },
        )
        | inr none ↦ inr (λ (class, query, also). none class query also.is_class also.represents also.passes)
      ]

  -- ---- views

  walks_of : (followed : List Labels) (query : Labels) (rtype : RrType) → (walks : List Walk) × AreWalks (following subject.config subject.rewrites followed) query rtype walks
  walks_of followed query rtype = all_walks_exist (following subject.config subject.rewrites followed) query rtype

  -- the views of all classes are a list
  views_exist : (views : List View) × AreViews subject views
  views_exist = by all_classes.0 all_classes.1 (some_in_force subject.config subject.rewrites).0 (some_in_force subject.config subject.rewrites).1 where
    by : (classes : List ListedClass) → AreListed subject.ground subject.below classes → (followed : List Labels) → IsInForce subject.config subject.rewrites followed
        → (views : List View) × AreViews subject views
    by classes are followed in_force = (
      map view_of classes,
      record {
        ordered = pairs_of_images view_of (λ (a b : View). class_cmp a.class b.class ≡ Less) classes are.ordered;
        all = λ view. (
          λ has. (let (one, among, same) = from_map view_of classes view has in subst (IsView subject) same (is_view one among)),
          λ is.
              let own : ListedClass = record { class = view.class; representative = view.query } in
              let among : Contains classes own = (are.all own).1 (is.is_class, is.represents) in
              subst (Contains (map view_of classes)) (one_view subject (view_of own) view (is_view own among) is refl) (map_has view_of classes own among),
        );
      },
    )
      where
        view_of : ListedClass → View
        view_of one =
            record { class = one.class; query = one.representative; ends = ends_of (λ rtype. (walks_of followed one.representative rtype).0) }

        is_view : (one : ListedClass) → Contains classes one → IsView subject (view_of one)
        is_view one among =
            let in_class = (are.all one).0 among in
            record {
              is_class = in_class.0;
              represents = in_class.1;
              followed = followed;
              in_force = in_force;
              ends = record {
                walks = λ rtype. (walks_of followed one.representative rtype).0;
                are_walks = λ rtype. (walks_of followed one.representative rtype).1;
                are_ends = refl;
              };
            }

-- ---- whole configurations

module _ (config : Config) where
  abbrev whole : ℕ → Subject
  whole rewrites = whole_config config rewrites

  covering : (rewrites : ℕ) → IsCovering (whole rewrites)
  covering rewrites = record { covers = own_covers config; in_tree = root_in_tree config (ground_of config) (own_covers config) }

  -- whether there are more names than so many is decided
  more_in_tree : (limit : ℕ) → Decided (HasMoreNames config limit)
  more_in_tree limit = turned there back (more_in_part (whole 0) (covering 0) limit) where
    there : HasMoreThan (IsInPart (ground_of config) []) limit → HasMoreNames config limit
    there more =
        record {
          items = more.items;
          more = more.more;
          differ = more.differ;
          each = all_so (IsInPart (ground_of config) []) (IsInTree (ground_of config)) more.items (λ name here. (here.named, here.is_name)) more.each;
        }

    back : HasMoreNames config limit → HasMoreThan (IsInPart (ground_of config) []) limit
    back more =
        record {
          items = more.items;
          more = more.more;
          differ = more.differ;
          each = all_so (IsInTree (ground_of config)) (IsInPart (ground_of config) []) more.items
              (λ name here. record { named = here.0; is_name = here.1; within = refl }) more.each;
        }

  -- what is given within the limit of names there is, if it is there else
  within_names : (limit : ℕ) (EndsSo : Ending → Type 0) → ((ending : Ending) × EndsSo ending) → (ending : Ending) × WithinNames config limit (EndsSo ending) ending
  within_names limit EndsSo (ending, ends) =
      elim (more_in_tree limit) [
        | inl more ↦ (too_many_names limit, inl (more, refl))
        | inr not_more ↦ (ending, inr (not_more, ends))
      ]

  -- what is given where no representative reaches too many pairs there is, if it is there else
  within_states : (rewrites : ℕ) (EndsSo : Ending → Type 0) → ((ending : Ending) × EndsSo ending)
      → (ending : Ending) × WithinStates config rewrites (EndsSo ending) ending
  within_states rewrites EndsSo (ending, ends) =
      elim (first_or_none (whole rewrites) (covering rewrites)) [
        | inl (query, first) ↦ (too_many_states query, inl (query, first, refl))
        | inr none ↦ (ending, inr (none, ends))
      ]

-- what `check` gives of a configuration there is
pub check_ends : (limit rewrites : ℕ) (config : Config) → (ending : Ending) × Checks limit rewrites config ending
check_ends limit rewrites config =
    let (report, is) = config_has_report config rewrites in
    within_names config limit (λ ending. WithinStates config rewrites (IsReported config rewrites ending) ending)
    (within_states config rewrites (IsReported config rewrites) (reported report, record { report = report; is_report = is; as_text = refl }))

-- and what `drill` gives
pub drill_ends : (limit zones : ℕ) (config : Config) → (ending : Ending) × Drills limit zones config ending
drill_ends limit zones config =
    let (report, is) = config_has_report config drill_rewrites in
    within_names config limit (λ ending. WithinStates config drill_rewrites (IsDrilled zones config ending) ending)
    (within_states config drill_rewrites (IsDrilled zones config) (drilled zones config report, record { report = report; is_report = is; as_line = refl }))

-- `site`
pub site_ends : (limit : ℕ) (sites : List Site) (config : Config) → (ending : Ending) × ShowsClasses limit sites config ending
site_ends limit sites config =
    let (views, are) = views_exist (whole_config config site_rewrites) (covering config site_rewrites) in
    within_names config limit (λ ending. WithinStates config site_rewrites (TellsFindings config sites ending) ending)
    (within_states config site_rewrites (TellsFindings config sites) (findings_written sites views, record { views = views; are_views = are; as_text = refl }))

-- and `classes`
pub list_ends : (limit : ℕ) (config : Config) → (ending : Ending) × ListsClasses limit config ending
list_ends limit config =
    let (classes, are) = all_classes (whole_config config 0) (covering config 0) in
    within_names config limit (IsClassList config) (listed classes, record { classes = classes; are_listed = are; as_text = refl })

-- and `scope`, where the servers' names are names and the scope's is
pub scope_ends : (limit : ℕ) (name : Labels) (sites : List Site) (config : Config) → IsName name → ((server : Labels) → Contains (server_names config) server → IsName server)
    → (ending : Ending) × Scopes limit name sites config ending
scope_ends limit name sites config is servers =
    elim (more_in_part (scope_of config name) covered limit) [
      | inl more ↦ (too_many_names limit, inl (more, refl))
      | inr not_more ↦ elim (first_or_none (scope_of config name) covered) [
        | inl (query, first) ↦ (too_many_states query, inr (not_more, inl (query, inl first, refl)))
        | inr none ↦ elim (first_with (PassesStates config scope_rewrites most_states) (λ server. passes_decided config scope_rewrites server most_states) (server_names config)) [
          | inl first ↦ (
            too_many_states first.name,
            inr (
              not_more,
              inl (
                first.name,
                inr (
                  none,
                  record {
                    before = first.earlier;
                    after = first.later;
                    among = first.splits;
                    is_name = servers first.name (subst (λ (l : List Labels). Contains l first.name) (sym first.splits)
                        (Contains-append_right first.earlier (first.name ∷ first.later) first.name (has_first first.name first.later)));
                    passes = first.has;
                    first = first.none_has;
                  },
                ),
                refl,
              ),
            ),
          )
          | inr few ↦ (
              let (report, is_report) = subject_has_report (scope_of config name) covered in
              let (views, are) = views_exist (scope_of config name) covered in (
                scope_written report name sites views,
                inr (
                  not_more,
                  inr (
                    record { no_class = none; no_server = λ (server, has, passes). few server has passes },
                    record { report = report; views = views; is_report = is_report; are_views = are; as_text = refl },
                  ),
                ),
              ))
        ]
      ]
    ]
  where
    covered : IsCovering (scope_of config name)
    covered = is_covered config scope_rewrites name is

-- names end behind what is written of others, if the first has this scope and the others end
one_more : (IsScope : Labels → Ending → Type 0) (so_far : Ending) (name : Labels) (names : List Labels) (scope : Ending) → IsScope name scope
    → (ending : Ending) × EndsBehind IsScope (with_scope so_far scope) names ending → (silent : Bool) → writes_nothing scope.status ≡ silent
    → (ending : Ending) × EndsBehind IsScope so_far (name ∷ names) ending
one_more IsScope so_far name names scope is rest true silent = (scope, (scope, is, inl (silent, refl)))
one_more IsScope so_far name names scope is rest false written = (rest.0, (scope, is, inr (written, rest.1)))

-- they end, if each has a scope
ends_behind : (IsScope : Labels → Ending → Type 0) (so_far : Ending) (names : List Labels) → ((name : Labels) → Contains names name → (ending : Ending) × IsScope name ending)
    → (ending : Ending) × EndsBehind IsScope so_far names ending
ends_behind IsScope so_far [] each = (so_far, refl)
ends_behind IsScope so_far (name ∷ names) each =
    let first = each name (has_first name names) in
    one_more IsScope so_far name names first.0 first.1
    (ends_behind IsScope (with_scope so_far first.0) names (λ other has. each other (has_later name names other has))) (writes_nothing first.0.status) refl

-- and so end the scopes of names
pub scopes_end : (limit : ℕ) (names : List Labels) (config : Config) → ((name : Labels) → Contains names name → IsName name)
    → ((server : Labels) → Contains (server_names config) server → IsName server) → (ending : Ending) × ScopesEach limit config names ending
scopes_end limit names config are servers =
    ends_behind (λ name. Scopes limit name own_sites config) (with_output Clean []) names (λ name has. scope_ends limit name own_sites config (are name has) servers)
