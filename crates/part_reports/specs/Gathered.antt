-- Parts that cover a configuration, and the entries of their reports put together into one report.
use Rattle.std.specs.Prelude.{◌≡◌, ℕ, ◌+◌, List, length, map, sum_by, Contains, flat_map}
use Rattle.std.specs.declared.cmp.Ordering.{Ordering}
use Rattle.dns_data.specs.Name.{Labels, IsName}
use Rattle.dns_data.specs.declared.rr_type.RrType.{RrType}
use Rattle.graph_form.specs.declared.report.Report.{Report}
use Rattle.graph_form.specs.Report.{Subject, IsEntry, IsShown}
use Rattle.net_model.specs.declared.config.Config.{Config}
use Rattle.net_model.specs.declared.fault.Fault.{Fault}
use Rattle.net_model.specs.Class.{class_cmp}
use Rattle.net_model.specs.Reading.{ground_of}
use Rattle.net_model.specs.Shown.{ShowsIn}
use Rattle.part_laws.specs.Part.{IsLocal, IsPart}
use Rattle.part_form.specs.PartText.{ClassedEntry}
use Rattle.part_reports.specs.PartReport.{PartReport}

-- some of these parts holds the name
pub record IsHeldBySome (parts : List (List Labels)) (name : Labels) : Type 0 where
  pub names : List Labels
  pub among : Contains parts names
  pub held : Contains names name

-- the held names of some parts that cover the configuration: one or more of them hold each of its base names
pub record AreParts (config : Config) (parts : List (List Labels)) : Type 0 where
  pub each : (names : List Labels) → Contains parts names → IsPart config names
  pub cover : (name : Labels) → Contains (ground_of config).names name → IsHeldBySome parts name

-- some local query shows the fault in the whole
pub record LocalShows (config : Config) (rewrites : ℕ) (names : List Labels) (fault : Fault) : Type 0 where
  pub query : Labels
  pub rtype : RrType
  pub is_name : IsName query
  pub local : IsLocal config names query
  pub shows : ShowsIn config rewrites query rtype fault

-- the entry is right for the subject, with this class as the one that its query represents
pub record IsClassedEntry (subject : Subject) (classed : ClassedEntry) : Type 0 where
  pub is : IsEntry subject classed.entry
  pub class_is : is.class ≡ classed.class

-- the list has an entry of the fault
pub record HasEntryOf (entries : List ClassedEntry) (fault : Fault) : Type 0 where
  pub classed : ClassedEntry
  pub among : Contains entries classed
  pub of_fault : classed.entry.seen.fault ≡ fault

-- the entries are right for the subject, and of each fault that it shows there is one
pub record AreClassedEntriesOf (subject : Subject) (entries : List ClassedEntry) : Type 0 where
  pub each : (classed : ClassedEntry) → Contains entries classed → IsClassedEntry subject classed
  pub all : (fault : Fault) → IsShown subject fault → HasEntryOf entries fault

-- the entries of all parts
abbrev pub entries_of_all : List PartReport → List ClassedEntry
entries_of_all parts = flat_map (λ part. part.entries) parts

-- the fault of an entry
abbrev pub entry_fault : ClassedEntry → Fault
entry_fault classed = classed.entry.seen.fault

-- how entries of one fault stand to each other: by their classes
abbrev pub class_order : ClassedEntry → ClassedEntry → Ordering
class_order a b = class_cmp a.class b.class

-- the report with the gathered entries, and with the own names and the own classes of all parts, added up
abbrev pub gathered_report_of : ℕ → List PartReport → List ClassedEntry → Report
gathered_report_of rewrites parts gathered =
    record {
      classes = sum_by (λ part. length part.tree + length part.below) parts;
      names = sum_by (λ part. length part.tree) parts;
      rewrites = rewrites;
      entries = map (λ classed. classed.entry) gathered;
    }
