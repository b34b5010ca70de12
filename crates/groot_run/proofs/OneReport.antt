-- A subject has at most one report: its tree has one size, and its faults are listed once, in one order, each with
-- its one entry.
use Rattle.std.proofs.Common.{◌≡◌, Contains, sym, ap, ◌∙◌, subst}
use Rattle.std.specs.Ordering.{on}
use Rattle.std.proofs.lemmas.Cmp.{on_total}
use Rattle.net_model.specs.FaultOrder.{fault_cmp}
use Rattle.graph_form.specs.declared.report.Report.{Report}
use Rattle.graph_form.specs.declared.report.ReportEntry.{ReportEntry}
use Rattle.graph_form.specs.Report.{Subject, IsEntry, IsShown, IsReport}
use Rattle.graph_form.proofs.TreeSizes.{one_size}
use Rattle.groot_run.proofs.OneEntry.{one_entry}
use Rattle.net_model.proofs.FaultOrder.{faults_total}
use Rattle.dns_data.proofs.Membership.{each_along, from_map}
use Rattle.dns_data.proofs.OrderedLists.{same_rising}

-- ---- the entries

module _ (subject : Subject) where
  entry_right : (report : Report) → IsReport subject report → (entry : ReportEntry) → Contains report.entries entry → IsEntry subject entry
  entry_right report is entry has =
      each_along (IsEntry subject) report.entries is.each_right entry has

  entry_shown : (report : Report) → IsReport subject report → (entry : ReportEntry) → Contains report.entries entry → IsShown subject entry.seen.fault
  entry_shown report is entry has =
      let shown = λ (entry : ReportEntry). IsShown subject entry.seen.fault in
      each_along shown report.entries is.each_shown entry has

  -- an entry of one report is in the other
  also_listed : (a b : Report) → IsReport subject a → IsReport subject b → (entry : ReportEntry) → Contains a.entries entry → Contains b.entries entry
  also_listed a b p q entry has =
      let found = from_map (λ (entry : ReportEntry). entry.seen.fault) b.entries entry.seen.fault (q.all_shown entry.seen.fault (entry_shown a p entry has)) in
      let same = one_entry subject found.0 entry (entry_right b q found.0 found.1) (entry_right a p entry has) found.2 in
      subst (Contains b.entries) same found.1

  -- so both list the same entries
  one_list : (a b : Report) → IsReport subject a → IsReport subject b → a.entries ≡ b.entries
  one_list a b p q =
      same_rising (on (λ (entry : ReportEntry). entry.seen.fault) fault_cmp) (on_total (λ (entry : ReportEntry). entry.seen.fault) faults_total)
      a.entries b.entries p.ordered q.ordered (also_listed a b p q) (also_listed b a q p)

-- reports with the same fields are one
same_fields : (a b : Report) → a.classes ≡ b.classes → a.names ≡ b.names → a.rewrites ≡ b.rewrites → a.entries ≡ b.entries → a ≡ b
same_fields a b classes names rewrites entries =
    ap (λ x. record a { classes = x }) classes
    ∙ ap (λ x. record a { classes = b.classes; names = x }) names
    ∙ ap (λ x. record b { rewrites = x; entries = a.entries }) rewrites
    ∙ ap (λ x. record b { entries = x }) entries

-- two reports of a subject are equal
pub one_report : (subject : Subject) (a b : Report) → IsReport subject a → IsReport subject b → a ≡ b
one_report subject a b p q =
    let size = one_size subject.ground subject.below a.names a.classes b.names b.classes p.size q.size in
    same_fields a b size.1 size.0 (p.limit ∙ sym q.limit) (one_list subject a b p q)
