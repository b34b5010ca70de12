-- The text of the report of a part of a configuration (RFC 8259).
use Rattle.std.specs.Prelude.{ℕ, List, [], ◌∷◌, ◌++◌, map, codes, Option, Some, None}
use Rattle.dns_data.specs.Name.{Labels}
use Rattle.graph_form.specs.declared.report.ReportEntry.{ReportEntry}
use Rattle.net_model.specs.declared.class.Class.{Class}
use Rattle.net_model.specs.Class.{class_name}
use Rattle.serde_json.specs.Data.{Data, null, number, string, unsigned}
use Rattle.serde_json.specs.Written.{compact_text}
use Rattle.report_json.specs.Faults.{class_kind}
use Rattle.report_json.specs.Json.{array_of, object_of, name_value}
use Rattle.report_json.specs.Report.{entry_value}

-- an entry of a report, with the class that its query represents
pub record ClassedEntry : Type 0 where
  pub class : Class
  pub entry : ReportEntry

-- What the text tells: where the own names of the part begin and which is the first one behind them, if there are such
-- names; how many own names and classes there are; how many rewrites a query may use; and the entries.
pub record WrittenPart : Type 0 where
  pub from : Option Labels
  pub to : Option Labels
  pub classes : ℕ
  pub names : ℕ
  pub rewrites : ℕ
  pub entries : List ClassedEntry

-- a name, or null where there is none
abbrev pub bound_value : Option Labels → Data
bound_value None = null
bound_value (Some name) = name_value name

-- the JSON value of an entry with its class
abbrev pub classed_value : ClassedEntry → Data
classed_value classed = object_of (
    (codes "class", string (class_kind classed.class))
    ∷ (codes "entry", entry_value classed.entry)
    ∷ (codes "name", name_value (class_name classed.class)) ∷ [])

-- the JSON value of the report of a part
abbrev pub part_value : WrittenPart → Data
part_value part = object_of (
    (codes "classes", number (unsigned part.classes))
    ∷ (codes "faults", array_of (map classed_value part.entries))
    ∷ (codes "from", bound_value part.from)
    ∷ (codes "names", number (unsigned part.names))
    ∷ (codes "rewrites", number (unsigned part.rewrites))
    ∷ (codes "to", bound_value part.to) ∷ [])

-- the text of the report of a part, without white space, and a line feed
abbrev pub part_text : WrittenPart → List ℕ
part_text part = compact_text (part_value part) ++ codes "\n"
