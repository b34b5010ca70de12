-- For the code alone, no public clause cites it: the text that is kept of an entry of a report, in its place.
use Rattle.graph_form.specs.declared.report.ReportEntry.{ReportEntry}
use Rattle.groot_run.specs.declared.kept_text.EntryText.{EntryText}
use Rattle.report_json.specs.Pieces.{entry_piece}

-- the text of an entry with the comma behind it, and the entry's fault
abbrev pub kept_text : ReportEntry → EntryText
kept_text entry = record { fault = entry.seen.fault; text = entry_piece entry }
