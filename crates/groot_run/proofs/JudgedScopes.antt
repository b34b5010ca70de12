-- What a judge tells of a scope, and what checks tell that were shown its classes, is what a scope gives.
use Rattle.std.proofs.Common.{◌≡◌, ◌∙◌, ℕ, List, [], map, inl, inr, sym, ap, subst}
use Rattle.dns_data.specs.Name.{Labels}
use Rattle.graph_form.specs.Report.{IsReport, Subject}
use Rattle.graph_form.specs.declared.report.Report.{Report}
use Rattle.query_classes.specs.ClassList.{AreListed, classes_of_rows}
use Rattle.query_classes.specs.declared.tree.ClassRow.{ClassRow}
use Rattle.query_verdicts.specs.Passed.{NonePasses}
use Rattle.query_verdicts.specs.Queries.{LimitedQueries, most_states, queries_of}
use Rattle.report_json.specs.Sites.{scope_text}
use Rattle.site_checks.specs.Views.{Site, site_findings}
use Rattle.site_checks.specs.declared.shown.SiteFindings.{SiteFindings}
use Rattle.run_endings.specs.declared.ending.Ending.{Ending}
use Rattle.run_endings.specs.declared.status.Status.{Status}
use Rattle.run_endings.specs.Endings.{no_memory, with_output}
use Rattle.groot_run.specs.Outcome.{IsScoped, status_of}
use Rattle.groot_run.specs.ShownClasses.{AreShown, EndsAmongClasses}
use Rattle.groot_run.proofs.Watched.{findings_of_sites}
use Rattle.groot_run.proofs.SiteViews.{all_views, is_first_passed}

-- the ending with the report of the scope of a name, and what checks tell
abbrev pub scope_with : Report → Labels → List SiteFindings → Ending
scope_with report name told = with_output (status_of report.entries) (scope_text report name told)

-- a text that is written with the report's status is that
pub as_written : (report : Report) (name asked : Labels) (told : List SiteFindings) (exit : Status) (text : List ℕ) → exit ≡ status_of report.entries → asked ≡ name
    → text ≡ scope_text report asked told → with_output exit text ≡ scope_with report name told
as_written report name asked told exit text status_is same is =
    ap (with_output exit) is ∙ ap (λ (s : Status). with_output s (scope_text report asked told)) status_is
    ∙ ap (λ (n : Labels). with_output (status_of report.entries) (scope_text report n told)) same

module _ (subject : Subject) (states : ℕ) (states_are : most_states ≡ states) (queries : LimitedQueries)
    (queries_are : queries ≡ queries_of subject states)
    (rows : List ClassRow) (are : AreListed subject.ground subject.below (classes_of_rows rows)) (none : NonePasses subject most_states) where
  -- the judge's queries are those of the subject within the limits of a scope
  of_scoped : (P : LimitedQueries → Type 0) → P queries → P (queries_of subject most_states)
  of_scoped P = subst P (queries_are ∙ ap (λ (n : ℕ). queries_of subject n) (sym states_are))

  -- no run ends among the classes unless memory ran out
  pub ran_out_among : (ending : Ending) → EndsAmongClasses queries (classes_of_rows rows) ending → ending ≡ no_memory
  ran_out_among ending ends = by (of_scoped (λ (q : LimitedQueries). EndsAmongClasses q (classes_of_rows rows) ending) ends) where
    by : EndsAmongClasses (queries_of subject most_states) (classes_of_rows rows) ending → ending ≡ no_memory
    by (inl (query, first, is)) =
        let passed = is_first_passed subject most_states (classes_of_rows rows) are query first in
        absurd (none.no_class (passed.class, query, passed.passes))
    by (inr ran_out) = ran_out

  -- checks that were shown the classes tell what they mean of them
  module _ (before after : List Site) where
    -- the ending with the report and what the checks then hold is that of the scope
    pub is_scoped : AreShown queries (classes_of_rows rows) before after
        → (report : Report) → IsReport subject report → (ending : Ending)
        → ending ≡ scope_with report subject.below (map (site_findings []) after) → IsScoped subject before ending
    is_scoped shown report is ending written =
        let seen = (of_scoped (λ (q : LimitedQueries). AreShown q (classes_of_rows rows) before after) shown).shown none.no_server in
        record {
          report = report;
          views = seen.views;
          is_report = is;
          are_views = all_views subject most_states (classes_of_rows rows) are seen.views seen.are_views;
          as_text = written ∙ ap (scope_with report subject.below) (findings_of_sites seen.views before after seen.seen);
        }
