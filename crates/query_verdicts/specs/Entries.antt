-- The entries of a report, each by the fault and the class for which it stands: for the contracts of inner calls alone.
use Rattle.std.specs.Prelude.{◌≡◌, ◌≢◌, ◌≤◌, Bool, List, map, Contains, AllPairs}
use Rattle.std.specs.List.{AllZip, AllByRecursion}
use Rattle.std.specs.Ordering.{is_lt}
use Rattle.std.specs.declared.cmp.Ordering.TheVariants.{Less}
use Rattle.query_verdicts.specs.Carried.{SomeClassShows}
use Rattle.query_verdicts.specs.declared.report.EntryParts.{EntryParts}
use Rattle.query_verdicts.specs.declared.first_classes.ClassFault.{ClassFault}
use Rattle.query_verdicts.specs.declared.report.Walked.{Walked}
use Rattle.query_verdicts.specs.Queries.{IsLeastGraph}
use Rattle.dns_data.specs.Name.{Labels}
use Rattle.dns_data.specs.RrType.{number_of}
use Rattle.dns_data.specs.declared.rr_type.RrType.{RrType}
use Rattle.graph_form.specs.Report.{Subject, ClassShows, IsEntry}
use Rattle.graph_form.specs.declared.report.ReportEntry.{ReportEntry}
use Rattle.net_model.specs.declared.class.Class.{Class}
use Rattle.net_model.specs.declared.fault.Fault.{Fault}
use Rattle.net_model.specs.Class.{class_cmp, IsRepresentative}
use Rattle.net_model.specs.FaultOrder.{fault_cmp}
use Rattle.net_model.specs.Shown.{ShowsIn}

-- the class's representative shows the fault, first with this type
pub record IsRightFound (subject : Subject) (found : ClassFault) : Type 0 where
  pub query : Labels
  pub shows : ClassShows subject found.class query found.seen.rtype found.seen.fault
  pub first_type : (rtype : RrType) → ShowsIn subject.config subject.rewrites query rtype found.seen.fault → number_of found.seen.rtype ≤ number_of rtype

-- the query is the representative of the class, and the graph that of its walks
pub record IsWalked (subject : Subject) (walked : Walked) : Type 0 where
  pub represents : IsRepresentative subject.ground walked.class walked.query
  pub of_query : IsLeastGraph subject.config subject.rewrites walked.query walked.graph

-- no class before this one shows the fault
abbrev pub IsFirstClass : Subject → ClassFault → Type 0
IsFirstClass subject found =
    (other : Class) (query : Labels) (rtype : RrType) → ClassShows subject other query rtype found.seen.fault
    → class_cmp other found.class ≢ Less

-- the entry is that of the fault, where the class is the first that shows it
pub record IsEntryOf (subject : Subject) (found : ClassFault) (entry : ReportEntry) : Type 0 where
  pub seen_is : entry.seen ≡ found.seen
  pub is_entry : IsFirstClass subject found → IsEntry subject entry

-- the entry of a fault with these parts
abbrev pub entry_of_parts : ClassFault → EntryParts → ReportEntry
entry_of_parts found parts = record { seen = found.seen; query = parts.query; repeats = parts.repeats; walks = parts.walks }

-- there is one entry for each fault, in turn
abbrev pub AreEntriesOf : Subject → List ClassFault → List ReportEntry → Type 0
AreEntriesOf subject found entries = AllZip (IsEntryOf subject) found entries

-- the fault of one entry is before that of the other
abbrev pub is_before : ReportEntry → ReportEntry → Bool
is_before a b = is_lt (fault_cmp a.seen.fault b.seen.fault)

-- the entries are those of the faults that some class shows, in fault order
pub record AreEntries (subject : Subject) (entries : List ReportEntry) : Type 0 where
  pub ordered : AllPairs (λ a b. fault_cmp a.seen.fault b.seen.fault ≡ Less) entries
  pub each_right : AllByRecursion (IsEntry subject) entries
  pub all_shown : (fault : Fault) → SomeClassShows subject fault → Contains (map (λ entry. entry.seen.fault) entries) fault
