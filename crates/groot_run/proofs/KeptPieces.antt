-- The text of a report in pieces, from what is kept of its entries.
use Rattle.std.proofs.Common.{◌≡◌, ◌∙◌, ℕ, List, Result, length, map, ap}
use Rattle.std.specs.Prelude.{IfOk}
use Rattle.std.specs.List.{flat_map}
use Rattle.std.proofs.lemmas.List.{length-map}
use Rattle.std.proofs.lemmas.Result.{IfOk-weaker}
use Rattle.std.proofs.lemmas.Simd.{map-map}
use Rattle.graph_form.specs.declared.report.Report.{Report}
use Rattle.graph_form.specs.declared.report.ReportEntry.{ReportEntry}
use Rattle.query_verdicts.specs.Kept.{KeepsReport}
use Rattle.query_verdicts.specs.declared.kept.KeptReport.{KeptReport}
use Rattle.report_json.specs.Pieces.{AreOfReport}
use Rattle.report_json.specs.declared.pieces.ReportNumbers.{ReportNumbers}
use Rattle.groot_run.specs.KeptText.{kept_text}
use Rattle.groot_run.specs.declared.kept_text.EntryText.{EntryText}

-- pieces are a text of each report of which this is kept
abbrev pub AreOfKept : KeptReport EntryText → (Report → List ℕ) → List (List ℕ) → Type 0
AreOfKept told text pieces =
    (report : Report) → KeepsReport kept_text told report → flat_map (λ piece. piece) pieces ≡ text report

-- pieces are a text of each report with these numbers whose entries have these texts
abbrev pub AreOfTexts : ReportNumbers → List (List ℕ) → (Report → List ℕ) → List (List ℕ) → Type 0
AreOfTexts numbers texts text pieces = (report : Report) → AreOfReport numbers texts report → flat_map (λ piece. piece) pieces ≡ text report

-- pieces that are made of the numbers and of the texts are pieces of what is kept
pub from_kept : {E : Type 0} (result : Result (List (List ℕ)) E) (told : KeptReport EntryText) (numbers : ReportNumbers) (texts : List (List ℕ)) (text : Report → List ℕ)
    → numbers.classes ≡ told.classes → numbers.names ≡ told.names → numbers.rewrites ≡ told.rewrites → texts ≡ map (λ one. one.text) told.kept
    → IfOk result (AreOfTexts numbers texts text) → IfOk result (AreOfKept told text)
from_kept result told numbers texts text classes_are names_are rewrites_are texts_are =
    IfOk-weaker result (AreOfTexts numbers texts text) (AreOfKept told text)
    (λ pieces are report keeps. are report (record {
      classes = classes_are ∙ keeps.classes;
      names = names_are ∙ keeps.names;
      rewrites = rewrites_are ∙ keeps.rewrites;
      entries = texts_are ∙ ap (map (λ (one : EntryText). one.text)) keeps.entries ∙ map-map (λ (one : EntryText). one.text) kept_text report.entries;
    }))

-- they are the text of a report of which this is kept
pub of_report : {E : Type 0} (result : Result (List (List ℕ)) E) (told : KeptReport EntryText) (text : Report → List ℕ) (report : Report)
    → KeepsReport kept_text told report → IfOk result (AreOfKept told text) → IfOk result (λ pieces. flat_map (λ piece. piece) pieces ≡ text report)
of_report result told text report keeps = IfOk-weaker result (AreOfKept told text) _ (λ pieces are. are report keeps)

-- a list of which something is kept of each entry is as long as that of the entries
pub as_many : {K : Type 0} (kept_of : ReportEntry → K) (kept here : List K) (entries : List ReportEntry) → here ≡ kept → kept ≡ map kept_of entries → length here ≡ length entries
as_many kept_of kept here entries same are = ap length (same ∙ are) ∙ length-map entries kept_of
