-- The texts of walks, entries, reports and the answers of `ask` are read as their values.
use Rattle.std.proofs.Common.{◌≡◌, ◌↔◌, ℕ, ◌≤◌, ◌<◌, ◌^◌, List, Some, arith}
use Rattle.dns_data.specs.Name.{Labels}
use Rattle.dns_data.specs.declared.rr_type.RrType.{RrType}
use Rattle.net_model.specs.declared.walk.Walk.{Walk}
use Rattle.graph_form.specs.declared.report.Report.{Report}
use Rattle.graph_form.specs.declared.report.ReportEntry.{ReportEntry}
use Rattle.serde_json.specs.Data.{Data, depth}
use Rattle.serde_json.specs.Read.{read, max_depth}
use Rattle.report_json.specs.Ask.{ask_value, ask_text}
use Rattle.report_json.specs.Plain.{IsWritten}
use Rattle.report_json.specs.Report.{entry_value, entry_text, report_value, report_text}
use Rattle.report_json.specs.Sites.{sites_value, sites_text, scope_value, scope_text}
use Rattle.report_json.specs.Walks.{walk_value, walk_text}
use Rattle.site_checks.specs.declared.shown.SiteFindings.{SiteFindings}
use Rattle.report_json.proofs.PlainValues.{walk_is_plain, walk_is_deep, entry_is_plain, entry_is_deep, report_is_plain, report_is_deep, ask_is_plain, ask_is_deep, sites_are_plain, sites_are_deep, scope_is_plain, scope_is_deep}
use Rattle.report_json.proofs.ReadBack.{reads_back, line_reads_back, one_text, plain_written}

-- a value that nests seven deep is read
shallow : (value : Data) → depth value ≤ 7 → depth value ≤ max_depth
shallow value deep = omega arith

walk_is_shallow : (walk : Walk) → depth (walk_value walk) ≤ max_depth
walk_is_shallow walk = shallow (walk_value walk) (omega (arith, walk_is_deep walk))

entry_is_shallow : (entry : ReportEntry) → depth (entry_value entry) ≤ max_depth
entry_is_shallow entry = shallow (entry_value entry) (omega (arith, entry_is_deep entry))

-- the text of a walk is read as its value
pub walk_reads_back : (walk : Walk) → read (walk_text walk) ≡ Some (walk_value walk)
walk_reads_back walk = reads_back (walk_value walk) (walk_is_plain walk) (walk_is_shallow walk)

-- the text of an entry is read as its value
pub entry_reads_back : (entry : ReportEntry) → read (entry_text entry) ≡ Some (entry_value entry)
entry_reads_back entry = reads_back (entry_value entry) (entry_is_plain entry) (entry_is_shallow entry)

-- the text of a report whose numbers take 64 bits is read as its value
pub report_reads_back : (report : Report) → report.classes < 2 ^ 64 → report.names < 2 ^ 64 → report.rewrites < 2 ^ 64
    → read (report_text report) ≡ Some (report_value report)
report_reads_back report classes names rewrites =
    line_reads_back (report_value report) (report_is_plain report classes names rewrites) (shallow (report_value report) (report_is_deep report))

-- the text of an answer of `ask` is read as its value
pub ask_reads_back : (name : Labels) (rtype : RrType) (walks : List Walk) → read (ask_text name rtype walks) ≡ Some (ask_value name rtype walks)
ask_reads_back name rtype walks =
    line_reads_back (ask_value name rtype walks) (ask_is_plain name rtype walks) (shallow (ask_value name rtype walks) (ask_is_deep name rtype walks))

-- the text of what checks tell is read as its value
pub sites_read_back : (told : List SiteFindings) → read (sites_text told) ≡ Some (sites_value told)
sites_read_back told = line_reads_back (sites_value told) (sites_are_plain told) (shallow (sites_value told) (sites_are_deep told))

-- the text of a scope's report whose numbers take 64 bits, with what checks tell, is read as its value
pub scope_reads_back : (report : Report) (name : Labels) (told : List SiteFindings) → report.classes < 2 ^ 64 → report.names < 2 ^ 64 → report.rewrites < 2 ^ 64
    → read (scope_text report name told) ≡ Some (scope_value report name told)
scope_reads_back report name told classes names rewrites =
    line_reads_back (scope_value report name told) (scope_is_plain report name told classes names rewrites)
    (shallow (scope_value report name told) (scope_is_deep report name told))

-- what serde_json writes of a value is the text of a walk exactly where the value is the walk's
pub walk_told : (value : Data) (text : List ℕ) → IsWritten value text → (walk : Walk) → (text ≡ walk_text walk) ↔ (value ≡ walk_value walk)
walk_told value text written walk = one_text value (walk_value walk) text (walk_is_plain walk) (walk_is_shallow walk) written

-- what serde_json writes of a value is the text of an entry exactly if the value is the entry's
pub entry_told : (value : Data) (text : List ℕ) → IsWritten value text → (entry : ReportEntry)
    → (text ≡ entry_text entry) ↔ (value ≡ entry_value entry)
entry_told value text written entry = one_text value (entry_value entry) text (entry_is_plain entry) (entry_is_shallow entry) written

-- two walks have the same text exactly if they have the same value
pub walks_told : (one other : Walk) → (walk_text one ≡ walk_text other) ↔ (walk_value one ≡ walk_value other)
walks_told one other = walk_told (walk_value one) (walk_text one) (plain_written (walk_value one) (walk_is_plain one) (walk_is_shallow one)) other

-- two entries have the same text exactly if they have the same value
pub entries_told : (one other : ReportEntry) → (entry_text one ≡ entry_text other) ↔ (entry_value one ≡ entry_value other)
entries_told one other = entry_told (entry_value one) (entry_text one) (plain_written (entry_value one) (entry_is_plain one) (entry_is_shallow one)) other
