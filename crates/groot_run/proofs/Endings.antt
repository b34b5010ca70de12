-- How the run of a job ends is how the run of its words ends.
use Rattle.std.proofs.Common.{◌≡◌, ℕ, false, List, [], ◌∷◌, ◌++◌, Result, Ok, Err, sym, subst, inl, inr, refl, true≢false}
use Rattle.std.specs.Prelude.{◌⊎◌, codes}
use Rattle.config_load.specs.Load.{NoFailureIn}
use Rattle.config_load.specs.Reading.{Reading, Reads, file_octets}
use Rattle.dns_data.specs.declared.rr_type.RrType.{RrType}
use Rattle.graph_form.specs.Report.{Subject}
use Rattle.graph_form.specs.declared.report.ReportEntry.{ReportEntry}
use Rattle.groot_line.specs.declared.fault.LineFault.{LineFault}
use Rattle.groot_line.specs.declared.fault.LineFault.TheVariants as line_faults
use Rattle.groot_line.specs.declared.job.Job.{Job}
use Rattle.groot_line.specs.declared.job.Job.TheVariants as jobs
use Rattle.groot_line.specs.declared.job.Task.{Task}
use Rattle.groot_line.specs.declared.job.Task.TheVariants as tasks
use Rattle.groot_line.specs.declared.program.Program.{Program}
use Rattle.groot_line.specs.Program.{usual_names}
use Rattle.io_edges.specs.Files.{FilesTold, TellsAll}
use Rattle.net_model.specs.declared.config.Config.{Config}
use Rattle.net_model.specs.Reading.{ground_of}
use Rattle.query_classes.specs.Children.{IsInTree}
use Rattle.site_checks.specs.Views.{Site}
use Rattle.report_check.specs.declared.answer.Checked.{Checked}
use Rattle.report_check.specs.declared.answer.Checked.TheVariants as checks
use Rattle.report_check.specs.declared.answer.CheckFault.{CheckFault}
use Rattle.report_check.specs.declared.answer.CheckFault.TheVariants as check_faults
use Rattle.query_verdicts.specs.Carried.{whole_config}
use Rattle.query_verdicts.specs.Passed.{IsFirstPassed, IsRefusedFor, NonePasses, SomeClassPasses}
use Rattle.query_verdicts.specs.Queries.{most_states}
use Rattle.same_answers.specs.Compared.{Compared}
use Rattle.same_answers.specs.Passed.{IsFirstPassedInOne, SomeClassPassesInOne}
use Rattle.same_answers.specs.declared.sameness.Sameness.{Sameness}
use Rattle.same_answers.specs.declared.sameness.Sameness.TheVariants.{Same, Apart}
use Rattle.zone_maker.specs.Source.{drill_told}
use Rattle.run_endings.specs.declared.ending.Ending.{Ending}
use Rattle.run_endings.proofs.AsAsked.{Says, SaysSo, as_asked as ended, over_none as unread, over_read, reading_says}
use Rattle.run_endings.specs.Runs.{Ends}
use Rattle.report_run.specs.Counted.{EndsPast}
use Rattle.report_run.specs.Budgets.{HasMoreNames, WithinBudgets, WithinNames, WithinStates, HasMoreNamesAt}
use Rattle.groot_run.specs.JobEnds.{JobEnds, EndsOverConfig, EndsWithoutConfig}
use Rattle.run_endings.specs.Endings.{OfReading, no_memory, with_output, writes_nothing}
use Rattle.run_endings.specs.declared.status.Status.{Status}
use Rattle.run_endings.specs.declared.status.Status.TheVariants.{Clean, Faults, WriteFault}
use Rattle.groot_run.specs.Outcome.{status_of, IsReported, Checks, ListsClasses, IsAnswerWith, Asks, IsDrilled, Drills, drill_rewrites, TellsFindings, site_rewrites, answered_to, IsRechecked, Rechecks, GivesOf, Outcome, JobComesTo, JobOpensNoOther, NoJobReadFailed, Compares, ComparesWith, HasMoreNamesInBoth, IsCompared, compared_of, sameness_written, IsScoped, ScopesSubject, scope_of, EndsBehind, Scopes, ScopesNames, ScopesOf, with_scope, own_sites, worse, usage}
use Rattle.groot_run.specs.NameList.{names_of}
use Rattle.groot_run.specs.Programs.{conf_of, limits_of}
use Rattle.groot_run.specs.declared.name_list.ListFault.{ListFault}
use Rattle.groot_run.specs.declared.name_list.ListFault.TheVariants as list_faults

-- ---- by what the files give

module _ (program : Program) (told : FilesTold) (before after : List ℕ → ℕ) (of_config : Config → Ending → Type 0) (meta : List ℕ) (ending : Ending) where
  -- a run that read its configuration ends as the configuration says, or because memory ran out
  pub over_config : (config : Config) → conf_of program meta told ≡ Reads config → of_config config ending ⊎ (ending ≡ no_memory) → EndsOverConfig program meta of_config told before after ending
  over_config config reads gives = over_read meta (conf_of program meta) told before after ending of_config config reads gives

  -- how a run ends whose files give no configuration is how one over the files of the metadata ends
  pub over_none : EndsWithoutConfig program meta told before after ending → EndsOverConfig program meta of_config told before after ending
  over_none without = unread meta (conf_of program meta) told before after ending of_config without

-- a run that ends since the class tree has too many names ends so, whatever its command gives within the limit
pub without_rows : (config : Config) (limit : ℕ) (P : Type 0) (ending : Ending) → EndsPast (IsInTree (ground_of config)) limit ending
    → WithinNames config limit P ending ⊎ (ending ≡ no_memory)
without_rows config limit P ending (inl more) = inl (inl more)
without_rows config limit P ending (inr ran_out) = inr ran_out

-- ---- the clauses

module _ (program : Program) (told : FilesTold) (said : Result Job LineFault) (sites : List Site) (before after : List ℕ → ℕ) where
  of_entries : (entries : List ReportEntry) (out : List ℕ) → Says (status_of entries) out
  of_entries [] out = tt
  of_entries (entry ∷ entries) out = tt

  within : (limit : ℕ) (HasMore : Type 0) (IsRefused : List (List ℕ) → Type 0) (NoneIs P : Type 0) (ending : Ending) → (P → SaysSo ending)
      → WithinBudgets limit HasMore IsRefused NoneIs P ending → SaysSo ending
  within limit HasMore IsRefused NoneIs P ending of (inl (more, is)) = subst SaysSo (sym is) refl
  within limit HasMore IsRefused NoneIs P ending of (inr (few, inl (query, refused, is))) = subst SaysSo (sym is) refl
  within limit HasMore IsRefused NoneIs P ending of (inr (few, inr (none, ends))) = of ends

  of_classes : (config : Config) (limit rewrites : ℕ) (P : Type 0) (ending : Ending) → (P → SaysSo ending)
      → WithinNames config limit (WithinStates config rewrites P ending) ending → SaysSo ending
  of_classes config limit rewrites =
      let subject = whole_config config rewrites in
      within limit (HasMoreNames config limit) (IsFirstPassed subject most_states) (SomeClassPasses subject most_states → ⊥)

  of_scope : (limit : ℕ) (subject : Subject) (shown : List Site) (ending : Ending) → ScopesSubject limit subject shown ending → SaysSo ending
  of_scope limit subject shown ending =
      within limit (HasMoreNamesAt subject limit) (IsRefusedFor subject most_states) (NonePasses subject most_states) (IsScoped subject shown ending) ending
      (λ is. subst SaysSo (sym is.as_text) (of_entries is.report.entries _))

  -- behind a text that is written with the status of a report another may be
  goes_on : (first second : Status) (out text : List ℕ) → Says second out → writes_nothing second ≡ false → Says (worse first second) text
  goes_on Clean Clean out text says written = tt
  goes_on Clean Faults out text says written = tt
  goes_on Clean WriteFault out text says written = absurd says
  goes_on Clean other out text says written = absurd (true≢false written)
  goes_on first second out text says written = tt

  of_scopes : (limit : ℕ) (config : Config) (so_far : Ending) (names : List (List (List ℕ))) (ending : Ending) → SaysSo so_far
      → EndsBehind (λ name. Scopes limit name own_sites config) so_far names ending → SaysSo ending
  of_scopes limit config so_far [] ending told is = subst SaysSo (sym is) told
  of_scopes limit config so_far (name ∷ names) ending told (scope, gives, inl (silent, is)) = subst SaysSo (sym is) (of_scope limit (scope_of config name) own_sites scope gives)
  of_scopes limit config so_far (name ∷ names) ending told (scope, gives, inr (written, rest)) =
      of_scopes limit config (with_scope so_far scope) names ending
      (goes_on so_far.status scope.status scope.out (so_far.out ++ scope.out) (of_scope limit (scope_of config name) own_sites scope gives) written) rest

  of_names : (limit : ℕ) (file : List ℕ) (config : Config) (names : Result (List (List (List ℕ))) ListFault) (ending : Ending)
      → ScopesNames limit file config names ending → SaysSo ending
  of_names limit file config (Ok names) ending ends = of_scopes limit config (with_output Clean []) names ending tt ends
  of_names limit file config (Err (list_faults.NotName line)) ending is = subst SaysSo (sym is) refl
  of_names limit file config (Err list_faults.NoMemory) ending is = subst SaysSo (sym is) refl

  a_comparison : (limit : ℕ) (two : Compared) (ending : Ending) → Compares limit two ending → SaysSo ending
  a_comparison limit two ending =
      within limit (HasMoreNamesInBoth two limit) (IsFirstPassedInOne two) (SomeClassPassesInOne two → ⊥) (IsCompared two ending) ending
      (λ is. by is.sameness is.as_line)
    where
      by : (sameness : Sameness) → ending ≡ sameness_written sameness → SaysSo ending
      by (Same classes names) line = subst SaysSo (sym line) tt
      by (Apart query rtype) line = subst SaysSo (sym line) tt

  a_list : (limit : ℕ) (config : Config) (ending : Ending) → ListsClasses limit config ending → SaysSo ending
  a_list limit config ending (inl (more, is)) = subst SaysSo (sym is) refl
  a_list limit config ending (inr (few, is)) = subst SaysSo (sym is.as_text) tt

  an_answer : (name : List (List ℕ)) (rtype : RrType) (config : Config) (ending : Ending) → Asks name rtype config ending → SaysSo ending
  an_answer name rtype config ending (inl (server, first, is)) = subst SaysSo (sym is) refl
  an_answer name rtype config ending (inr answer) = by answer.answer where
    by : IsAnswerWith config answer.followed name rtype ending → SaysSo ending
    by (inl (more, is)) = subst SaysSo (sym is) refl
    by (inr (few, are)) = subst SaysSo (sym are.as_text) tt

  the_answer : (file : List ℕ) (config : Config) (octets : List ℕ) (ending : Ending) → IsRechecked file config octets ending → SaysSo ending
  the_answer file config octets ending is = by is.answer is.as_line where
    by : (answer : Result Checked CheckFault) → ending ≡ answered_to file answer → SaysSo ending
    by (Ok (checks.Right entries)) line = subst SaysSo (sym line) tt
    by (Ok (checks.Wrong entry)) line = subst SaysSo (sym line) tt
    by (Err check_faults.NotReport) line = subst SaysSo (sym line) refl
    by (Err (check_faults.Walks entry)) line = subst SaysSo (sym line) refl
    by (Err check_faults.NoMemory) line = subst SaysSo (sym line) refl

  of_task : (task : Task) (ending : Ending) (config : Config) → GivesOf program task sites config ending → SaysSo ending
  of_task (tasks.Check workers classes rewrites) ending config =
      of_classes config classes rewrites (IsReported config rewrites ending) ending (λ is. subst SaysSo (sym is.as_text) (of_entries is.report.entries _))
  of_task (tasks.Ask name rtype) ending config = an_answer name rtype config ending
  of_task (tasks.Classes classes) ending config = a_list classes config ending
  of_task tasks.Site ending config =
      of_classes config (usual_names program) site_rewrites (TellsFindings config sites ending) ending (λ are. subst SaysSo (sym are.as_text) tt)
  of_task (tasks.Scope name) ending config =
      of_scope (usual_names program) (scope_of config name) sites ending

  of_outcome : (files : FilesTold) (job : Result Job LineFault) (ending : Ending) → Outcome program files job sites ending → SaysSo ending
  of_outcome files (Ok (jobs.OfConfig meta task)) ending = reading_says meta (GivesOf program task sites) ending (of_task task ending) (conf_of program meta files)
  of_outcome files (Ok (jobs.Drill zones workers)) ending =
      reading_says (codes "meta.json") (Drills (usual_names program) zones) ending
      (λ config. of_classes config (usual_names program) drill_rewrites (IsDrilled zones config ending) ending (λ is. subst SaysSo (sym is.as_line) (of_entries is.report.entries _)))
      (conf_of program (codes "meta.json") (drill_told zones))
  of_outcome files (Ok (jobs.Recheck meta report)) ending =
      reading_says meta (Rechecks program files report) ending
      (λ config. reading_says report (IsRechecked report config) ending (λ octets. the_answer report config octets ending) (file_octets (limits_of program) report files))
      (conf_of program meta files)
  of_outcome files (Ok (jobs.Same first second)) ending =
      reading_says first (ComparesWith program files second) ending
      (λ config. reading_says second (λ other. Compares (usual_names program) (compared_of config other)) ending
      (λ other. a_comparison (usual_names program) (compared_of config other) ending) (conf_of program second files))
      (conf_of program first files)
  of_outcome files (Ok (jobs.Scopes meta names)) ending =
      reading_says meta (ScopesOf program files names) ending
      (λ config. reading_says names (λ octets. ScopesNames (usual_names program) names config (names_of octets)) ending
      (λ octets. of_names (usual_names program) names config (names_of octets) ending) (file_octets (limits_of program) names files))
      (conf_of program meta files)
  of_outcome files (Err fault) ending = λ is. subst SaysSo (sym is) refl

  -- how the run of a job ends that the words ask for
  pub with_job : (job : Job) (ending : Ending) → said ≡ Ok job → JobEnds program told (Ok job) sites before after ending → JobEnds program told said sites before after ending
  with_job job ending is_job = subst (λ (other : Result Job LineFault). JobEnds program told other sites before after ending) (sym is_job)

  -- how a run ends whose words are refused, unless memory ran out for them
  pub with_usage : (fault : LineFault) (ending : Ending) → fault ≡ line_faults.Usage → (fault ≡ line_faults.NoMemory) ⊎ (said ≡ Err fault) → ending ≡ usage program
      → JobEnds program told said sites before after ending
  with_usage fault ending refused (inl ran_out) is = absurd (cc)
  with_usage fault ending refused (inr refuses) is = inl (subst (λ (other : Result Job LineFault). Outcome program told other sites ending) (sym refuses) is)

  module _ (ending : Ending) (ends : JobEnds program told said sites before after ending) where
    -- where no read failed, the check of a configuration that was read ends as such checks do, or because memory ran out
    pub headline : (meta : List ℕ) (workers classes rewrites : ℕ) (config : Config)
        → said ≡ Ok (jobs.OfConfig meta (tasks.Check workers classes rewrites)) → conf_of program meta told ≡ Reads config → NoFailureIn (conf_of program meta) told before after
        → Checks classes rewrites config ending ⊎ (ending ≡ no_memory)
    headline meta workers classes rewrites config is reads none = by ends where
      by : JobEnds program told said sites before after ending → Checks classes rewrites config ending ⊎ (ending ≡ no_memory)
      by (inl outcome) =
          inl (subst (λ (read : Reading Config). OfReading meta (Checks classes rewrites) read ending) reads
          (subst (λ (other : Result Job LineFault). Outcome program told other sites ending) is outcome))
      by (inr (inl (file, failed, comes, rose))) =
          absurd (subst (λ (other : Result Job LineFault). NoJobReadFailed program told other before after) (sym is) none file comes rose)
      by (inr (inr ran_out)) = inr ran_out

    -- How a job's run ends is how the run of its words ends; what was told from the start, and what else was opened, is
    -- handed on.
    pub as_asked : (told_before : FilesTold) → (TellsAll told_before → told ≡ told_before) → JobOpensNoOther program told_before told said
        → Ends (λ files. Outcome program files said sites) (λ files. JobComesTo program files said)
        (record { told_before = told_before; told_after = told; failed_before = before; failed_after = after }) ending
    as_asked told_before = ended (λ files. Outcome program files said sites) (λ files. JobComesTo program files said) _ ending (of_outcome told said ending) ends
