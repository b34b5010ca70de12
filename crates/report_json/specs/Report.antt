-- The texts of a report and of an entry.
use Rattle.std.specs.Prelude.{ℕ, List, [], ◌∷◌, ◌++◌, map, codes}
use Rattle.dns_data.specs.RrType.{word_of}
use Rattle.graph_form.specs.declared.report.Report.{Report}
use Rattle.graph_form.specs.declared.report.ReportEntry.{ReportEntry}
use Rattle.serde_json.specs.Data.{Data, boolean, number, string, unsigned}
use Rattle.serde_json.specs.Written.{compact_text}
use Rattle.report_json.specs.Faults.{kind_word, fault_value}
use Rattle.report_json.specs.Json.{array_of, object_of, name_value}
use Rattle.report_json.specs.Walks.{walk_value}

-- how a query shows a fault: whether its first walk comes to a server twice with one name, its type, and its walks
abbrev pub showing_members : ReportEntry → List (List ℕ × Data)
showing_members entry =
    (codes "repeats", boolean entry.repeats)
    ∷ (codes "type", string (word_of entry.seen.rtype))
    ∷ (codes "walks", array_of (map walk_value entry.walks)) ∷ []

-- the JSON value of an entry: a fault, and the query that shows it first
abbrev pub entry_value : ReportEntry → Data
entry_value entry = object_of (
    (codes "kind", string (kind_word entry.seen.fault))
    ∷ (codes "place", fault_value entry.seen.fault)
    ∷ (codes "query", name_value entry.query) ∷ showing_members entry)

-- the text of an entry, without white space
abbrev pub entry_text : ReportEntry → List ℕ
entry_text entry = compact_text (entry_value entry)

-- what a report says: how many classes and names there are, how many rewrites a query may use, and the entries
abbrev pub report_members : Report → List (List ℕ × Data)
report_members report =
    (codes "classes", number (unsigned report.classes))
    ∷ (codes "faults", array_of (map entry_value report.entries))
    ∷ (codes "names", number (unsigned report.names))
    ∷ (codes "rewrites", number (unsigned report.rewrites)) ∷ []

-- the JSON value of a report
abbrev pub report_value : Report → Data
report_value report = object_of (report_members report)

-- the text of a report, without white space, and a line feed
abbrev pub report_text : Report → List ℕ
report_text report = compact_text (report_value report) ++ codes "\n"
