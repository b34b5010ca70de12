-- For the code alone, no public clause cites it: what is kept of an entry of a report, and its text with its class.
use Rattle.std.specs.Prelude.{◌≡◌}
use Rattle.dns_data.specs.Name.{IsName}
use Rattle.graph_form.specs.declared.report.ReportEntry.{ReportEntry}
use Rattle.net_model.specs.Class.{class_name, IsClassOf}
use Rattle.net_model.specs.Reading.{Ground}
use Rattle.net_model.specs.declared.class.Class.{Class}
use Rattle.report_json.specs.Report.{entry_text}
use Rattle.part_form.specs.Written.{IsNamedFault}
use Rattle.part_texts.specs.declared.writing.ClassedText.{ClassedText}
use Rattle.part_run.specs.declared.entry.KeptEntry.{KeptEntry}

-- what is kept of an entry: its fault, its query and its text
abbrev pub kept_entry : ReportEntry → KeptEntry
kept_entry entry = record { fault = entry.seen.fault; query = entry.query; text = entry_text entry }

-- the text is what is kept with the one class of its query
pub record IsClassedText (ground : Ground) (kept : KeptEntry) (classed : ClassedText) : Type 0 where
  pub same : classed.text ≡ kept.text
  pub is_class : IsClassOf ground kept.query classed.class
  pub one : (other : Class) → IsClassOf ground kept.query other → other ≡ classed.class
  pub class_named : IsName (class_name classed.class)
  pub fault_named : IsNamedFault kept.fault
