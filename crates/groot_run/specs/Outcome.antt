-- How a run ends: its status, the text for out and the line for err, by its job and by what is told of the files.
use Rattle.std.specs.Prelude.{◌≡◌, ◌≢◌, ℕ, true, false, ◌⊎◌, List, [], ◌∷◌, ◌++◌, length, map, min, codes, decimal, Result, Ok, Err}
use Rattle.io_edges.specs.Counts.{last_count, Rose}
use Rattle.io_edges.specs.Files.{FilesTold}
use Rattle.dns_data.specs.Name.{Labels}
use Rattle.dns_data.specs.Spelling.{name_text}
use Rattle.dns_data.specs.RrType.{word_of}
use Rattle.dns_data.specs.declared.rr_type.RrType.{RrType}
use Rattle.net_model.specs.declared.config.Config.{Config}
use Rattle.net_model.specs.declared.walk.Walk.{Walk}
use Rattle.net_model.specs.Learnt.{IsInForce}
use Rattle.net_model.specs.Step.{following}
use Rattle.net_model.specs.Walk.{AreWalks}
use Rattle.net_model.specs.Reading.{ground_of}
use Rattle.query_verdicts.specs.Carried.{whole_config}
use Rattle.query_verdicts.specs.Queries.{most_states}
use Rattle.config_load.specs.Load.{ComesToFile}
use Rattle.config_load.specs.Reading.{both, file_octets}
use Rattle.config_load.specs.Refusal.{fields_line}
use Rattle.graph_form.specs.Report.{Subject, IsReport}
use Rattle.graph_form.specs.declared.report.Report.{Report}
use Rattle.graph_form.specs.declared.report.ReportEntry.{ReportEntry}
use Rattle.plain_resolver.specs.Passed.{HasMoreWalks, NoneInRounds, IsFirstWithTooMany, most_walks_followed}
use Rattle.report_check.specs.Checked.{IsChecked}
use Rattle.report_check.specs.declared.answer.Checked.{Checked}
use Rattle.report_check.specs.declared.answer.Checked.TheVariants as checks
use Rattle.report_check.specs.declared.answer.CheckFault.{CheckFault}
use Rattle.report_check.specs.declared.answer.CheckFault.TheVariants as check_faults
use Rattle.report_json.specs.Ask.{ask_text}
use Rattle.report_json.specs.Report.{report_text}
use Rattle.groot_line.specs.LineOption.{usual_rewrites}
use Rattle.groot_line.specs.Program.{usual_names}
use Rattle.groot_line.specs.Usage.{usage_line}
use Rattle.groot_line.specs.declared.fault.LineFault.{LineFault}
use Rattle.groot_line.specs.declared.job.Job.{Job}
use Rattle.groot_line.specs.declared.job.Job.TheVariants as jobs
use Rattle.groot_line.specs.declared.job.Task.{Task}
use Rattle.groot_line.specs.declared.job.Task.TheVariants as tasks
use Rattle.groot_line.specs.declared.program.Program.{Program}
use Rattle.run_endings.specs.declared.ending.Ending.{Ending}
use Rattle.run_endings.specs.declared.status.Status.{Status}
use Rattle.run_endings.specs.Endings.{OfReading, with_output, without_output, no_memory, too_many_to_learn, writes_nothing}
use Rattle.run_endings.specs.declared.status.Status.TheVariants.{Clean, Faults, Usage, Refused, Walks}
use Rattle.job_scope.specs.Scoped.{scoped}
use Rattle.same_answers.specs.Compared.{Compared, joint}
use Rattle.same_answers.specs.Passed.{IsFirstPassedInOne, SomeClassPassesInOne}
use Rattle.same_answers.specs.Sameness.{IsSameness}
use Rattle.same_answers.specs.declared.sameness.Sameness.{Sameness}
use Rattle.same_answers.specs.declared.sameness.Sameness.TheVariants.{Same, Apart}
use Rattle.net_model.specs.Tree.{HasMoreThan}
use Rattle.query_classes.specs.Children.{IsInTree}
use Rattle.zone_maker.specs.Source.{drill_told}
use Rattle.report_json.specs.Sites.{sites_text, scope_text}
use Rattle.site_checks.specs.AOnly.{a_only}
use Rattle.site_checks.specs.Answering.{answering}
use Rattle.site_checks.specs.Views.{AreViews, Site, site_findings}
use Rattle.site_checks.specs.declared.views.View.{View}
use Rattle.report_run.specs.Budgets.{WithinBudgets, WithinNames, WithinStates, WithinSubject}
use Rattle.groot_run.specs.DrillLine.{drill_line, record_count}
use Rattle.groot_run.specs.NameList.{names_of}
use Rattle.groot_run.specs.declared.name_list.ListFault.{ListFault}
use Rattle.groot_run.specs.declared.name_list.ListFault.TheVariants as list_faults
use Rattle.groot_run.specs.Programs.{conf_of, limits_of}
use Rattle.query_classes.specs.ClassList.{ListedClass, AreListed}
use Rattle.groot_run.specs.ClassList.{class_list_text}

-- the status of a report that is written whole
abbrev pub status_of : List ReportEntry → Status
status_of [] = Clean
status_of (entry ∷ entries) = Faults

-- ---- the ways to end

-- the words are no job of the program
abbrev pub usage : Program → Ending
usage program = without_output Usage (usage_line program)

-- the ending with this report: its text for standard output, and a status that says whether it has a fault
abbrev pub reported : Report → Ending
reported report = with_output (status_of report.entries) (report_text report)

-- a list of classes
abbrev pub listed : List ListedClass → Ending
listed classes = with_output Clean (class_list_text classes)

-- the answer of a query
abbrev pub walks_written : Labels → RrType → List Walk → Ending
walks_written name rtype walks = with_output Clean (ask_text name rtype walks)

-- how many walks of the query are written at most
abbrev pub most_walks_written : ℕ
most_walks_written = 1000

-- the query has more walks than are written
abbrev pub too_many_walks : Ending
too_many_walks = without_output Walks (codes "walks: more than " ++ (decimal most_walks_written ++ codes "\n"))

-- the findings of checks that were shown these views
abbrev pub findings_written : List Site → List View → Ending
findings_written sites views = with_output Clean (sites_text (map (site_findings views) sites))

-- the report of the scope of a name, with the findings of checks that were shown these views
abbrev pub scope_written : Report → Labels → List Site → List View → Ending
scope_written report name sites views = with_output (status_of report.entries) (scope_text report name (map (site_findings views) sites))

-- ---- the outcome of a job

-- the run ends with the report of the configuration
pub record IsReported (config : Config) (rewrites : ℕ) (ending : Ending) : Type 0 where
  pub report : Report
  pub is_report : IsReport (whole_config config rewrites) report
  pub as_text : ending ≡ reported report

-- what `check` gives of a configuration: its report, unless its class tree has too many names, or a representative reaches
-- too many pairs of state and type
abbrev pub Checks : ℕ → ℕ → Config → Ending → Type 0
Checks limit rewrites config ending =
    WithinNames config limit (WithinStates config rewrites (IsReported config rewrites ending) ending) ending

-- the run ends with the list of the configuration's classes
pub record IsClassList (config : Config) (ending : Ending) : Type 0 where
  pub classes : List ListedClass
  pub are_listed : AreListed (ground_of config) [] classes
  pub as_text : ending ≡ listed classes

-- what `classes` gives of a configuration: the list of its classes
abbrev pub ListsClasses : ℕ → Config → Ending → Type 0
ListsClasses limit config ending = WithinNames config limit (IsClassList config ending) ending

-- how many rewrites a walk of `ask` may use
abbrev pub ask_rewrites : ℕ
ask_rewrites = usual_rewrites

-- the run ends with all walks of the query, in order, while these servers are followed
pub record AreWritten (config : Config) (followed : List Labels) (name : Labels) (rtype : RrType) (ending : Ending) : Type 0 where
  pub walks : List Walk
  pub are_walks : AreWalks (following config ask_rewrites followed) name rtype walks
  pub as_text : ending ≡ walks_written name rtype walks

-- the answer of the query while these servers are followed: its walks, unless there are more than may be written
abbrev pub IsAnswerWith : Config → List Labels → Labels → RrType → Ending → Type 0
IsAnswerWith config followed name rtype ending =
    (HasMoreWalks (following config ask_rewrites followed) name rtype most_walks_written × (ending ≡ too_many_walks))
    ⊎ ((HasMoreWalks (following config ask_rewrites followed) name rtype most_walks_written → ⊥)
    × AreWritten config followed name rtype ending)

-- the answer of the query with the set in force, in whose rounds no server's name has more walks than are followed
pub record IsAnswerOf (config : Config) (name : Labels) (rtype : RrType) (ending : Ending) : Type 0 where
  pub followed : List Labels
  pub in_force : IsInForce config ask_rewrites followed
  pub few : NoneInRounds config ask_rewrites most_walks_followed [] (length config.servers)
  pub answer : IsAnswerWith config followed name rtype ending

-- what `ask` gives of a configuration: the answer of the query, unless a server's name has more walks than are followed
abbrev pub Asks : Labels → RrType → Config → Ending → Type 0
Asks name rtype config ending =
    ((server : Labels) × IsFirstWithTooMany config ask_rewrites most_walks_followed [] server × (ending ≡ too_many_to_learn most_walks_followed server))
    ⊎ IsAnswerOf config name rtype ending

-- a drill with this report; a count of records ends at its last number
abbrev pub drilled : ℕ → Config → Report → Ending
drilled zones config report =
    with_output (status_of report.entries) (drill_line zones (min (record_count config.servers) last_count) report.names (length report.entries))

-- how many rewrites a query of a drill may use
abbrev pub drill_rewrites : ℕ
drill_rewrites = usual_rewrites

-- the run ends with the line of the configuration's report
pub record IsDrilled (zones : ℕ) (config : Config) (ending : Ending) : Type 0 where
  pub report : Report
  pub is_report : IsReport (whole_config config drill_rewrites) report
  pub as_line : ending ≡ drilled zones config report

-- what `drill` gives of the configuration of its files: the line, unless the class tree has more names than the limit, or a
-- representative reaches too many pairs of state and type
abbrev pub Drills : ℕ → ℕ → Config → Ending → Type 0
Drills limit zones config ending =
    WithinNames config limit (WithinStates config drill_rewrites (IsDrilled zones config ending) ending) ending

-- how many rewrites a query of these classes may use
abbrev pub site_rewrites : ℕ
site_rewrites = usual_rewrites

-- the run ends with what the checks tell that were shown the views of all classes of the configuration
pub record TellsFindings (config : Config) (sites : List Site) (ending : Ending) : Type 0 where
  pub views : List View
  pub are_views : AreViews (whole_config config site_rewrites) views
  pub as_text : ending ≡ findings_written sites views

-- what `site` gives of a configuration: what the checks tell, unless the class tree has more names than the limit, or a
-- representative reaches too many pairs of state and type
abbrev pub ShowsClasses : ℕ → List Site → Config → Ending → Type 0
ShowsClasses limit sites config ending =
    WithinNames config limit (WithinStates config site_rewrites (TellsFindings config sites ending) ending) ending

-- ---- a report that is checked

-- each entry is right, and there are so many
abbrev pub all_right : ℕ → Ending
all_right entries = with_output Clean (codes "recheck: entries " ++ (decimal entries ++ codes ", right\n"))

-- the entry with this number isn't right
abbrev pub entry_wrong : ℕ → Ending
entry_wrong entry = with_output Faults (codes "recheck: entry " ++ (decimal entry ++ codes " wrong\n"))

-- the file has no report
abbrev pub not_report : List ℕ → Ending
not_report file = without_output Refused (fields_line file (decimal 0) (codes "not-report"))

-- the query of the entry with this number has more walks than are followed; with the number 0, a server's name has more
abbrev pub too_many_to_check : ℕ → Ending
too_many_to_check entry =
    without_output Walks (codes "walks: more than " ++ (decimal most_walks_followed ++ (codes " for entry " ++ (decimal entry ++ codes "\n"))))

-- how a run ends by what is answered to the report in this file
abbrev pub answered_to : List ℕ → Result Checked CheckFault → Ending
answered_to file (Ok (checks.Right entries)) = all_right entries
answered_to file (Ok (checks.Wrong entry)) = entry_wrong entry
answered_to file (Err check_faults.NotReport) = not_report file
answered_to file (Err (check_faults.Walks entry)) = too_many_to_check entry
answered_to file (Err check_faults.NoMemory) = no_memory

-- the run ends with the answer to the octets of the report in this file
pub record IsRechecked (file : List ℕ) (config : Config) (octets : List ℕ) (ending : Ending) : Type 0 where
  pub answer : Result Checked CheckFault
  pub is_checked : IsChecked config octets answer
  pub is_answered : answer ≢ Err check_faults.NoMemory
  pub as_line : ending ≡ answered_to file answer

-- what `recheck` gives of a configuration: the answer to the report in this file
abbrev pub Rechecks : Program → FilesTold → List ℕ → Config → Ending → Type 0
Rechecks program told file config ending = OfReading file (IsRechecked file config) (file_octets (limits_of program) file told) ending

-- ---- two configurations that are compared

-- how many rewrites a query may use in each of them
abbrev pub same_rewrites : ℕ
same_rewrites = usual_rewrites

-- the two configurations, with the limits of `same`
abbrev pub compared_of : Config → Config → Compared
compared_of first second = record { first = first; second = second; rewrites = same_rewrites; states = most_states }

-- no query tells them apart: so many classes, of so many names, were looked at
abbrev pub all_same : ℕ → ℕ → Ending
all_same classes names = with_output Clean (codes "same: classes " ++ decimal classes ++ codes ", names " ++ decimal names ++ codes "\n")

-- the query tells them apart, with the type
abbrev pub one_differs : Labels → RrType → Ending
one_differs query rtype = with_output Faults (codes "differ: " ++ name_text query ++ codes " " ++ word_of rtype ++ codes "\n")

-- how a run ends by the answer for two configurations
abbrev pub sameness_written : Sameness → Ending
sameness_written (Same classes names) = all_same classes names
sameness_written (Apart query rtype) = one_differs query rtype

-- the class tree of both has more names than the limit
abbrev pub HasMoreNamesInBoth : Compared → ℕ → Type 0
HasMoreNamesInBoth two limit = HasMoreThan (IsInTree (joint two)) limit

-- What `same` gives of two configurations: where their class tree has no more names than the limit, and no representative
-- reaches more pairs of state and type than it may in one of them, the run ends so. Of those that do the first in class
-- order is named.
abbrev pub WithinBoth : Compared → ℕ → Type 0 → Ending → Type 0
WithinBoth two limit = WithinBudgets limit (HasMoreNamesInBoth two limit) (IsFirstPassedInOne two) (SomeClassPassesInOne two → ⊥)

-- the run ends with the answer for the two: that each query of at most 255 octets that both bound has the same
-- outcomes in both with each type, or the first one that hasn't
pub record IsCompared (two : Compared) (ending : Ending) : Type 0 where
  pub sameness : Sameness
  pub is_sameness : IsSameness two sameness
  pub as_line : ending ≡ sameness_written sameness

-- what `same` gives of two configurations: what is told of them, unless too many names are there, or a query reaches
-- too many pairs of state and type
abbrev pub Compares : ℕ → Compared → Ending → Type 0
Compares limit two ending = WithinBoth two limit (IsCompared two ending) ending

-- what it gives of the first one: what is told of it and of the one that the second metadata file gives
abbrev pub ComparesWith : Program → FilesTold → List ℕ → Config → Ending → Type 0
ComparesWith program told second first ending =
    OfReading second (λ config. Compares (usual_names program) (compared_of first config)) (conf_of program second told) ending

-- ---- a scope

-- how many rewrites a query of a scope may use
abbrev pub scope_rewrites : ℕ
scope_rewrites = usual_rewrites

-- the scope of a name in a configuration: the subject of its report
abbrev pub scope_of : Config → Labels → Subject
scope_of config name = scoped config scope_rewrites name

-- the run ends with the report of a subject, and with what the checks tell that were shown the views of all its classes
pub record IsScoped (subject : Subject) (sites : List Site) (ending : Ending) : Type 0 where
  pub report : Report
  pub views : List View
  pub is_report : IsReport subject report
  pub are_views : AreViews subject views
  pub as_text : ending ≡ scope_written report subject.below sites views

-- what `scope` gives of a subject: the report and the findings, unless more names than the limit are there, or a query
-- there or a server's name reaches too many pairs of state and type
abbrev pub ScopesSubject : ℕ → Subject → List Site → Ending → Type 0
ScopesSubject limit subject sites ending = WithinSubject subject limit (IsScoped subject sites ending) ending

-- what `scope` gives of a configuration: of the queries at or below a name
abbrev pub Scopes : ℕ → Labels → List Site → Config → Ending → Type 0
Scopes limit name sites config = ScopesSubject limit (scope_of config name) sites

-- ---- the scopes of a file's names

-- the line of the file with this number is no name
abbrev pub bad_name : List ℕ → ℕ → Ending
bad_name file line = without_output Refused (fields_line file (decimal line) (codes "bad-name"))

-- the status of two reports: that of a fault, where one of them has it
abbrev pub worse : Status → Status → Status
worse Clean second = second
worse first second = Faults

-- what was written, and the text of a scope behind it
abbrev pub with_scope : Ending → Ending → Ending
with_scope so_far scope = with_output (worse so_far.status scope.status) (so_far.out ++ scope.out)

-- What names give behind what was written of others, in order: each the text that `scope` writes for it, behind one
-- another. The first for which `scope` writes nothing ends the run as it ends `scope`; nothing is written then.
abbrev pub EndsBehind : (Labels → Ending → Type 0) → Ending → List Labels → Ending → Type 0
EndsBehind IsScope so_far [] ending = ending ≡ so_far
EndsBehind IsScope so_far (name ∷ names) ending =
    (scope : Ending) × IsScope name scope
    × (((writes_nothing scope.status ≡ true) × (ending ≡ scope))
    ⊎ ((writes_nothing scope.status ≡ false) × EndsBehind IsScope (with_scope so_far scope) names ending))

-- the checks that come with the library, which were shown nothing
abbrev pub own_sites : List Site
own_sites = record { name = codes "a-only"; held = []; step = a_only } ∷ record { name = codes "answering"; held = []; step = answering } ∷ []

-- what `scopes` gives of names: what `scope` does of each, with the checks that come with the library
abbrev pub ScopesEach : ℕ → Config → List Labels → Ending → Type 0
ScopesEach limit config = EndsBehind (λ name. Scopes limit name own_sites config) (with_output Clean [])

-- what it gives of the names that a file may have
abbrev pub ScopesNames : ℕ → List ℕ → Config → Result (List Labels) ListFault → Ending → Type 0
ScopesNames limit file config (Ok names) ending = ScopesEach limit config names ending
ScopesNames limit file config (Err (list_faults.NotName line)) ending = ending ≡ bad_name file line
ScopesNames limit file config (Err list_faults.NoMemory) ending = ending ≡ no_memory

-- what it gives of a configuration: the scopes of the names in this file
abbrev pub ScopesOf : Program → FilesTold → List ℕ → Config → Ending → Type 0
ScopesOf program told file config ending =
    OfReading file (λ octets. ScopesNames (usual_names program) file config (names_of octets)) (file_octets (limits_of program) file told) ending

-- what a task gives of its configuration, by the program and the checks that the operator brings
abbrev pub GivesOf : Program → Task → List Site → Config → Ending → Type 0
GivesOf program (tasks.Check workers classes rewrites) sites = Checks classes rewrites
GivesOf program (tasks.Ask name rtype) sites = Asks name rtype
GivesOf program (tasks.Classes classes) sites = ListsClasses classes
GivesOf program tasks.Site sites = ShowsClasses (usual_names program) sites
GivesOf program (tasks.Scope name) sites = Scopes (usual_names program) name sites

-- what the words' job gives, by the program, by what is told of the files, and by the checks that the operator brings; a
-- drill reads its own files
abbrev pub Outcome : Program → FilesTold → Result Job LineFault → List Site → Ending → Type 0
Outcome program told (Ok (jobs.OfConfig meta task)) sites ending = OfReading meta (GivesOf program task sites) (conf_of program meta told) ending
Outcome program told (Ok (jobs.Drill zones workers)) sites ending = OfReading (codes "meta.json") (Drills (usual_names program) zones) (conf_of program (codes "meta.json") (drill_told zones)) ending
Outcome program told (Ok (jobs.Recheck meta report)) sites ending = OfReading meta (Rechecks program told report) (conf_of program meta told) ending
Outcome program told (Ok (jobs.Same first second)) sites ending = OfReading first (ComparesWith program told second) (conf_of program first told) ending
Outcome program told (Ok (jobs.Scopes meta names)) sites ending = OfReading meta (ScopesOf program told names) (conf_of program meta told) ending
Outcome program told job sites ending = ending ≡ usage program

-- ---- failed reads

-- The job comes to the file: every step of its reading before gives no refusal, and comes to no opened name that isn't
-- held.
abbrev pub JobComesTo : Program → FilesTold → Result Job LineFault → List ℕ → Type 0
JobComesTo program told (Ok (jobs.OfConfig meta task)) file = ComesToFile (conf_of program meta) told file
JobComesTo program told (Ok (jobs.Recheck meta report)) file = ComesToFile (both (conf_of program meta) (file_octets (limits_of program) report)) told file
JobComesTo program told (Ok (jobs.Same first second)) file = ComesToFile (both (conf_of program first) (conf_of program second)) told file
JobComesTo program told (Ok (jobs.Scopes meta names)) file = ComesToFile (both (conf_of program meta) (file_octets (limits_of program) names)) told file
JobComesTo program told job file = ⊥

-- no other file is opened than those to which the job comes: of any other name the same is told as before
abbrev pub JobOpensNoOther : Program → FilesTold → FilesTold → Result Job LineFault → Type 0
JobOpensNoOther program before after job = (file : List ℕ) → (after file ≡ before file) ⊎ JobComesTo program after job file

-- no count of a file rose to which the job comes
abbrev pub NoJobReadFailed : Program → FilesTold → Result Job LineFault → (List ℕ → ℕ) → (List ℕ → ℕ) → Type 0
NoJobReadFailed program told job before after = (file : List ℕ) → JobComesTo program told job file → Rose (before file) (after file) → ⊥
