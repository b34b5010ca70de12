-- What is kept of a report where its entries aren't: something of each entry, which is made as soon as the entry is, so
-- that the entry's walks go before those of the next are made.
use Rattle.std.specs.Prelude.{◌≡◌, Bool, List, ◌∷◌, [], ◌++◌, map}
use Rattle.std.specs.List.{AllZip}
use Rattle.std.specs.Ordering.{is_lt}
use Rattle.graph_form.specs.Report.{IsReport, Subject}
use Rattle.graph_form.specs.declared.report.Report.{Report}
use Rattle.graph_form.specs.declared.report.ReportEntry.{ReportEntry}
use Rattle.net_model.specs.declared.fault.Fault.{Fault}
use Rattle.net_model.specs.FaultOrder.{fault_cmp}
use Rattle.query_verdicts.specs.Entries.{AreEntries, IsEntryOf}
use Rattle.query_verdicts.specs.declared.first_classes.ClassFault.{ClassFault}
use Rattle.query_verdicts.specs.declared.kept.KeptReport.{KeptReport}

-- these are the three numbers of the report, and this is kept of its entries, in order
pub record KeepsReport {K : Type 0} (kept_of : ReportEntry → K) (made : KeptReport K) (report : Report) : Type 0 where
  pub classes : made.classes ≡ report.classes
  pub names : made.names ≡ report.names
  pub rewrites : made.rewrites ≡ report.rewrites
  pub entries : made.kept ≡ map kept_of report.entries

-- there is a report of the subject of which this is kept
pub record IsKeptReport {K : Type 0} (subject : Subject) (kept_of : ReportEntry → K) (made : KeptReport K) : Type 0 where
  pub report : Report
  pub is_report : IsReport subject report
  pub keeps : KeepsReport kept_of made report

-- ---- for the contracts of inner calls alone

-- it is what is kept of the fault's entry
abbrev pub IsKeptOf : {K : Type 0} → Subject → (ReportEntry → K) → ClassFault → K → Type 0
IsKeptOf subject kept_of found one = (entry : ReportEntry) × IsEntryOf subject found entry × (one ≡ kept_of entry)

-- what is kept of the entry of the fault is put behind the others
abbrev pub PutsKept : {K : Type 0} → Subject → (ReportEntry → K) → ClassFault → List K → List K → Type 0
PutsKept {K} subject kept_of found old new = (one : K) × IsKeptOf subject kept_of found one × (new ≡ old ++ one ∷ [])

-- this is kept of the entries of the faults, in turn
abbrev pub AreKeptOf : {K : Type 0} → Subject → (ReportEntry → K) → List ClassFault → List K → Type 0
AreKeptOf subject kept_of found kept = AllZip (IsKeptOf subject kept_of) found kept

-- this is kept of the subject's entries, in fault order
abbrev pub AreKept : {K : Type 0} → Subject → (ReportEntry → K) → List K → Type 0
AreKept subject kept_of kept = (entries : List ReportEntry) × AreEntries subject entries × (kept ≡ map kept_of entries)

-- the fault of the one is before that of the other
abbrev pub is_kept_before : {K : Type 0} → (K → Fault) → K → K → Bool
is_kept_before fault_of a b = is_lt (fault_cmp (fault_of a) (fault_of b))
