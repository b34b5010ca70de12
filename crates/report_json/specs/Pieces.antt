-- The texts of a report, and of a scope's, in pieces: what stands in front of the entries, the text of each entry with the
-- comma behind it, and what stands behind them.
use Rattle.std.specs.Prelude.{◌≡◌, ℕ, ◌-◌, List, [], ◌∷◌, ◌++◌, drop, length, map, take, codes, decimal}
use Rattle.std.specs.List.{flat_map}
use Rattle.dns_data.specs.Name.{Labels}
use Rattle.graph_form.specs.declared.report.Report.{Report}
use Rattle.graph_form.specs.declared.report.ReportEntry.{ReportEntry}
use Rattle.serde_json.specs.Written.{compact_text}
use Rattle.site_checks.specs.declared.shown.SiteFindings.{SiteFindings}
use Rattle.report_json.specs.Json.{name_value}
use Rattle.report_json.specs.Report.{entry_text}
use Rattle.report_json.specs.Sites.{sites_text}
use Rattle.report_json.specs.declared.pieces.ReportNumbers.{ReportNumbers}

-- the text of an entry and a comma, as it stands in a report before another entry
abbrev pub entry_piece : ReportEntry → List ℕ
entry_piece entry = entry_text entry ++ codes ","

-- these are the numbers of the report and the pieces of its entries
pub record AreOfReport (numbers : ReportNumbers) (pieces : List (List ℕ)) (report : Report) : Type 0 where
  pub classes : numbers.classes ≡ report.classes
  pub names : numbers.names ≡ report.names
  pub rewrites : numbers.rewrites ≡ report.rewrites
  pub entries : pieces ≡ map entry_piece report.entries

-- what stands in front of a report's entries: the count of the classes
abbrev pub report_front : ℕ → List ℕ
report_front classes = codes "{\"classes\":" ++ (decimal classes ++ codes ",\"faults\":[")

-- what stands behind a report's entries, up to the end of the object: the count of the names and that of the rewrites
abbrev pub report_back : ℕ → ℕ → List ℕ
report_back names rewrites = codes "],\"names\":" ++ (decimal names ++ (codes ",\"rewrites\":" ++ decimal rewrites))

-- what stands behind the entries of a scope's report, up to the end of the line: the name, and what all checks tell, as it
-- stands in an object of its own behind the brace
abbrev pub scope_back : ℕ → ℕ → Labels → List SiteFindings → List ℕ
scope_back names rewrites name told =
    report_back names rewrites ++ (codes ",\"scope\":" ++ (compact_text (name_value name) ++ (codes "," ++ drop 1 (sites_text told))))

-- the pieces without their last octet: the comma behind the last entry goes
abbrev pub without_comma : List (List ℕ) → List (List ℕ)
without_comma [] = []
without_comma (piece ∷ []) = take (length piece - 1) piece ∷ []
without_comma (piece ∷ next ∷ pieces) = piece ∷ without_comma (next ∷ pieces)

-- a text of what stands in front, of the entries' pieces and of what stands behind
abbrev pub joined : List ℕ → List (List ℕ) → List ℕ → List ℕ
joined front pieces back = front ++ (flat_map (λ piece. piece) (without_comma pieces) ++ back)
