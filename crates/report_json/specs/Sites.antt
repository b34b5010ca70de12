-- The texts of what checks of sites tell, alone and behind the report of a scope.
use Rattle.std.specs.Prelude.{ℕ, List, [], ◌∷◌, ◌++◌, map, codes}
use Rattle.dns_data.specs.Name.{Labels}
use Rattle.graph_form.specs.declared.report.Report.{Report}
use Rattle.serde_json.specs.Data.{Data, string}
use Rattle.serde_json.specs.Written.{compact_text}
use Rattle.site_checks.specs.declared.shown.SiteFindings.{SiteFindings}
use Rattle.report_json.specs.Json.{array_of, object_of, name_value}
use Rattle.report_json.specs.Report.{report_members}

-- what a check tells: its findings, in order, and its name
abbrev pub site_value : SiteFindings → Data
site_value told = object_of (
    (codes "findings", array_of (map string told.findings))
    ∷ (codes "name", string told.title) ∷ [])

-- what all checks tell, in order
abbrev pub sites_members : List SiteFindings → List (List ℕ × Data)
sites_members told = (codes "sites", array_of (map site_value told)) ∷ []

-- the JSON value of what all checks tell
abbrev pub sites_value : List SiteFindings → Data
sites_value told = object_of (sites_members told)

-- the text of what all checks tell, without white space, and a line feed
abbrev pub sites_text : List SiteFindings → List ℕ
sites_text told = compact_text (sites_value told) ++ codes "\n"

-- the report on the queries at or below a name, the name, and what all checks tell of their classes
abbrev pub scope_value : Report → Labels → List SiteFindings → Data
scope_value report name told = object_of (report_members report ++ (codes "scope", name_value name) ∷ sites_members told)

-- the text of a report on a name and of what all checks tell, without white space, and a line feed
abbrev pub scope_text : Report → Labels → List SiteFindings → List ℕ
scope_text report name told = compact_text (scope_value report name told) ++ codes "\n"
