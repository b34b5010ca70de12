-- The text of the report of a part, from the texts of its entries.
use Rattle.std.specs.Prelude.{◌≡◌, ℕ, zero, suc, Bool, true, List, [], ◌∷◌, ◌++◌, map, codes, Option}
use Rattle.dns_data.specs.Name.{Labels}
use Rattle.net_model.specs.Class.{class_name}
use Rattle.report_json.specs.Faults.{class_kind}
use Rattle.report_json.specs.Json.{name_value}
use Rattle.report_json.specs.Report.{entry_text}
use Rattle.serde_json.specs.Written.{comma_if, compact_text}
use Rattle.part_form.specs.PartText.{ClassedEntry, WrittenPart, bound_value}
use Rattle.part_texts.specs.declared.writing.ClassedText.{ClassedText}
use Rattle.part_texts.specs.declared.writing.PartNumbers.{PartNumbers}

-- what is kept of an entry for its text: its class, and its text in a report
abbrev pub classed_text : ClassedEntry → ClassedText
classed_text classed = record { class = classed.class; text = entry_text classed.entry }

-- these are the bounds, the numbers and the texts of the entries of what is written of a part
pub record AreOfPart (from to : Option Labels) (numbers : PartNumbers) (entries : List ClassedText) (part : WrittenPart) : Type 0 where
  pub from_is : from ≡ part.from
  pub to_is : to ≡ part.to
  pub classes : numbers.classes ≡ part.classes
  pub names : numbers.names ≡ part.names
  pub rewrites : numbers.rewrites ≡ part.rewrites
  pub texts : entries ≡ map classed_text part.entries

-- ---- for the contracts of inner calls alone

-- the text of a bound
abbrev pub bound_text : Option Labels → List ℕ
bound_text bound = compact_text (bound_value bound)

-- the text of an entry with its class
abbrev pub entry_words : ClassedText → List ℕ
entry_words entry =
    codes "{\"class\":\"" ++ (class_kind entry.class ++ (codes "\",\"entry\":" ++ (entry.text ++ (codes ",\"name\":" ++ (compact_text (name_value (class_name entry.class)) ++ codes "}")))))

-- what stands before the entry of a place, counted from 0
abbrev pub comma_before : ℕ → List ℕ
comma_before zero = []
comma_before (suc place) = codes ","

-- the texts of entries, with a comma between two, and before the first if something stands before it
abbrev pub listed : Bool → List ClassedText → List ℕ
listed later [] = []
listed later (entry ∷ entries) = comma_if later ++ (entry_words entry ++ listed true entries)
