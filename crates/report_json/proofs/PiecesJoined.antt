-- The pieces of a report's text, together, are the text.
use Rattle.std.proofs.Common.{◌≡◌, ◌∙◌, ◌-◌, ℕ, true, false, List, [], ◌∷◌, ◌++◌, length, map, take, codes, ap, sym, refl, append_assoc, append-nil, length-append, arith}
use Rattle.std.specs.Prelude.{decimal}
use Rattle.std.specs.List.{flat_map}
use Rattle.std.proofs.Math.Seq.{take-append_seam}
use Rattle.json.specs.Print.{escape_byte}
use Rattle.serde_json.specs.Data.{Data}
use Rattle.serde_json.specs.Written.{compact_text, items_text, members_text}
use Rattle.dns_data.specs.Name.{Labels}
use Rattle.graph_form.specs.declared.report.Report.{Report}
use Rattle.graph_form.specs.declared.report.ReportEntry.{ReportEntry}
use Rattle.site_checks.specs.declared.shown.SiteFindings.{SiteFindings}
use Rattle.report_json.specs.Json.{json_items, json_members, name_value, object_of}
use Rattle.report_json.specs.Pieces.{AreOfReport, entry_piece, joined, report_back, report_front, scope_back, without_comma}
use Rattle.report_json.specs.Report.{entry_text, entry_value, report_members, report_text}
use Rattle.report_json.specs.Sites.{scope_text, sites_members}
use Rattle.report_json.specs.declared.pieces.ReportNumbers.{ReportNumbers}

-- a text is what its piece is without the comma
without_its_comma : (text : List ℕ) → take (length (text ++ codes ",") - 1) (text ++ codes ",") ≡ text
without_its_comma text =
    let shorter : length (text ++ codes ",") - 1 ≡ length text = omega (arith, length-append text (codes ",")) in
    ap (λ n. take n (text ++ codes ",")) shorter ∙ take-append_seam text (codes ",")

-- the octets of entries' pieces without the last comma
abbrev listed : List ReportEntry → List ℕ
listed entries = flat_map (λ piece. piece) (without_comma (map entry_piece entries))

-- with the end of an array they are the text of the array's items
items_joined : (entries : List ReportEntry) → listed entries ++ codes "]" ≡ items_text false (json_items (map entry_value entries))
items_joined [] = refl
items_joined (entry ∷ []) =
    ap (λ text. (text ++ []) ++ codes "]") (without_its_comma (entry_text entry)) ∙ ap (λ text. text ++ codes "]") (append-nil (entry_text entry))
items_joined (entry ∷ next ∷ entries) =
    append_assoc (entry_piece entry) (listed (next ∷ entries)) (codes "]")
    ∙ append_assoc (entry_text entry) (codes ",") (listed (next ∷ entries) ++ codes "]")
    ∙ ap (λ text. entry_text entry ++ (codes "," ++ text)) (items_joined (next ∷ entries))

-- an object that begins with the members of a report, around the text of its entries
begun : (report : Report) (more : List (List ℕ × Data))
    → codes "{\"classes\":" ++ (decimal report.classes ++ (codes ",\"faults\":[" ++ (items_text false (json_items (map entry_value report.entries))
    ++ (codes ",\"names\":" ++ (decimal report.names ++ (codes ",\"rewrites\":" ++ (decimal report.rewrites ++ members_text true (json_members more))))))))
    ≡ compact_text (object_of (report_members report ++ more))
unfolding escape_byte
begun report more = refl

-- octets in front, in the middle and behind, one after the other
in_order : (a b c list d e f g tail : List ℕ)
    → (a ++ (b ++ c)) ++ (list ++ ((d ++ (e ++ (f ++ g))) ++ tail)) ≡ a ++ (b ++ (c ++ (list ++ (d ++ (e ++ (f ++ (g ++ tail)))))))
in_order a b c list d e f g tail = simp append_assoc

-- what stands in front, the pieces, what stands behind and more members are the text of an object
members_joined : (report : Report) (more : List (List ℕ × Data))
    → joined (report_front report.classes) (map entry_piece report.entries) (report_back report.names report.rewrites ++ members_text true (json_members more))
    ≡ compact_text (object_of (report_members report ++ more))
members_joined report more =
    let list = listed report.entries in
    let tail = members_text true (json_members more) in
    let behind = codes ",\"names\":" ++ (decimal report.names ++ (codes ",\"rewrites\":" ++ (decimal report.rewrites ++ tail))) in
    in_order (codes "{\"classes\":") (decimal report.classes) (codes ",\"faults\":[") list (codes "],\"names\":") (decimal report.names) (codes ",\"rewrites\":") (decimal report.rewrites) tail
    ∙ ap (λ text. codes "{\"classes\":" ++ (decimal report.classes ++ (codes ",\"faults\":[" ++ text)))
    (sym (append_assoc list (codes "]") behind) ∙ ap (λ items. items ++ behind) (items_joined report.entries))
    ∙ begun report more

-- what is put at the end of what stands behind is put at the end of the text
joined_with : (front : List ℕ) (pieces : List (List ℕ)) (back more : List ℕ) → joined front pieces (back ++ more) ≡ joined front pieces back ++ more
joined_with front pieces back more = simp append_assoc

-- what stands in front of the entries, their pieces, and what stands behind are the text of the report
report_joined : (report : Report)
    → joined (report_front report.classes) (map entry_piece report.entries) (report_back report.names report.rewrites ++ codes "}\n") ≡ report_text report
report_joined report =
    let front = report_front report.classes in
    let pieces = map entry_piece report.entries in
    let back = report_back report.names report.rewrites in
    ap (joined front pieces) (sym (append_assoc back (codes "}") (codes "\n")))
    ∙ joined_with front pieces (back ++ codes "}") (codes "\n")
    ∙ ap (λ text. text ++ codes "\n") (members_joined report [])

-- what stands behind the entries of a scope's report
behind_scope : (back scope name comma sites feed : List ℕ) → back ++ (scope ++ (name ++ (comma ++ (sites ++ feed)))) ≡ (back ++ (scope ++ (name ++ (comma ++ sites)))) ++ feed
behind_scope back scope name comma sites feed = simp append_assoc

-- the members of a scope's report behind those of the report
scope_members : (name : Labels) (told : List SiteFindings)
    → codes ",\"scope\":" ++ (compact_text (name_value name) ++ (codes "," ++ members_text false (json_members (sites_members told))))
    ≡ members_text true (json_members ((codes "scope", name_value name) ∷ sites_members told))
unfolding escape_byte
scope_members name told = refl

-- so it is of the report of a scope
scope_joined : (report : Report) (name : Labels) (told : List SiteFindings)
    → joined (report_front report.classes) (map entry_piece report.entries) (scope_back report.names report.rewrites name told) ≡ scope_text report name told
scope_joined report name told =
    let front = report_front report.classes in
    let pieces = map entry_piece report.entries in
    let back = report_back report.names report.rewrites in
    let more : List (List ℕ × Data) = (codes "scope", name_value name) ∷ sites_members told in
    let sites = members_text false (json_members (sites_members told)) in
    ap (joined front pieces)
    (behind_scope back (codes ",\"scope\":") (compact_text (name_value name)) (codes ",") sites (codes "\n")
    ∙ ap (λ text. (back ++ text) ++ codes "\n") (scope_members name told))
    ∙ joined_with front pieces (back ++ members_text true (json_members more)) (codes "\n")
    ∙ ap (λ text. text ++ codes "\n") (members_joined report more)

-- what is joined of the numbers of a report and of its entries' pieces is joined of the report
same_joined : (behind : ℕ → ℕ → List ℕ) (numbers : ReportNumbers) (entries : List (List ℕ)) (report : Report) → AreOfReport numbers entries report
    → joined (report_front numbers.classes) entries (behind numbers.names numbers.rewrites)
    ≡ joined (report_front report.classes) (map entry_piece report.entries) (behind report.names report.rewrites)
same_joined behind numbers entries report of = rw (of.classes, of.names, of.rewrites, of.entries) refl

-- so it is the text of the report
pub joined_report : (numbers : ReportNumbers) (entries : List (List ℕ)) (back : List ℕ) (report : Report) → AreOfReport numbers entries report
    → back ≡ report_back numbers.names numbers.rewrites ++ codes "}\n" → joined (report_front numbers.classes) entries back ≡ report_text report
joined_report numbers entries back report of is =
    ap (joined (report_front numbers.classes) entries) is
    ∙ same_joined (λ names rewrites. report_back names rewrites ++ codes "}\n") numbers entries report of
    ∙ report_joined report

-- or that of the scope's report
pub joined_scope : (numbers : ReportNumbers) (entries : List (List ℕ)) (back : List ℕ) (name : Labels) (told : List SiteFindings) (report : Report)
    → AreOfReport numbers entries report → back ≡ scope_back numbers.names numbers.rewrites name told
    → joined (report_front numbers.classes) entries back ≡ scope_text report name told
joined_scope numbers entries back name told report of is =
    ap (joined (report_front numbers.classes) entries) is
    ∙ same_joined (λ names rewrites. scope_back names rewrites name told) numbers entries report of
    ∙ scope_joined report name told
