-- The headline in three: which faults a report has, by which query and walk it shows each, and as which text it is written.
use Rattle.std.specs.Prelude.{◌≡◌, ◌≢◌, ◌↔◌, List, map, Contains, AllPairs}
use Rattle.std.specs.List.{AllByRecursion}
use Rattle.std.specs.declared.cmp.Ordering.TheVariants.{Less}
use Rattle.graph_form.specs.Report.{Subject, IsEntry, IsShown, IsTreeSize}
use Rattle.graph_form.specs.declared.report.Report.{Report}
use Rattle.groot_run.specs.Outcome.{reported}
use Rattle.net_model.specs.declared.fault.Fault.{Fault}
use Rattle.net_model.specs.FaultOrder.{fault_cmp}
use Rattle.run_endings.specs.declared.ending.Ending.{Ending}

-- the faults of a report's entries
abbrev pub faults_of : Report → List Fault
faults_of report = map (λ entry. entry.seen.fault) report.entries

-- Which faults: the report has exactly those that some query shows, each once.
pub record HasFaults (subject : Subject) (report : Report) : Type 0 where
  pub exactly : (fault : Fault) → Contains (faults_of report) fault ↔ IsShown subject fault
  pub once : AllPairs (λ a b. a ≢ b) (faults_of report)

-- By which query and walk: in the order of faults each entry has the first class that shows its fault, the first type and
-- the first walk. The report counts the names and classes, and has the number of rewrites that a query may use.
pub record HasEntries (subject : Subject) (report : Report) : Type 0 where
  pub ordered : AllPairs (λ a b. fault_cmp a.seen.fault b.seen.fault ≡ Less) report.entries
  pub each : AllByRecursion (IsEntry subject) report.entries
  pub size : IsTreeSize subject.ground subject.below report.names report.classes
  pub limit : report.rewrites ≡ subject.rewrites

-- As which text: the run ends with the report's text, and its status says whether the report has a fault.
abbrev pub IsWritten : Report → Ending → Type 0
IsWritten report ending = ending ≡ reported report
