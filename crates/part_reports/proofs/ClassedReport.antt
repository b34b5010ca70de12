-- The entries of a report with their classes.
use Rattle.std.proofs.Common.{◌≡◌, ◌∙◌, List, [], ◌∷◌, map, Contains, sym, refl, ap, subst, inl, inr}
use Rattle.std.specs.List.{AllByRecursion}
use Rattle.dns_data.proofs.Membership.{none_in_nil, first_or_later, from_map}
use Rattle.graph_form.specs.Report.{Subject, IsEntry, IsShown, IsReport}
use Rattle.graph_form.specs.declared.report.Report.{Report}
use Rattle.graph_form.specs.declared.report.ReportEntry.{ReportEntry}
use Rattle.net_model.specs.declared.fault.Fault.{Fault}
use Rattle.part_reports.specs.Gathered.{IsClassedEntry, HasEntryOf, AreClassedEntriesOf}
use Rattle.part_form.specs.PartText.{ClassedEntry}

-- right entries with their classes
pub record WithClasses (subject : Subject) (entries : List ReportEntry) : Type 0 where
  pub classed : List ClassedEntry
  pub entries_are : map (λ (c : ClassedEntry). c.entry) classed ≡ entries
  pub each : (c : ClassedEntry) → Contains classed c → IsClassedEntry subject c

with_classes : (subject : Subject) (entries : List ReportEntry) → AllByRecursion (IsEntry subject) entries → WithClasses subject entries
with_classes subject [] right = record { classed = []; entries_are = refl; each = λ c has. absurd (none_in_nil c has) }
with_classes subject (entry ∷ entries) right =
    let rest = with_classes subject entries right.1 in
    let first : ClassedEntry = record { class = right.0.class; entry = entry } in
    record {
      classed = first ∷ rest.classed;
      entries_are = ap (λ (es : List ReportEntry). entry ∷ es) rest.entries_are;
      each = λ c has. elim (first_or_later first rest.classed c has) [
        | inl same ↦ subst (IsClassedEntry subject) same (record { is = right.0; class_is = refl })
        | inr later ↦ rest.each c later
      ];
    }

-- the entries of a report, with the classes that they have, are the subject's
pub entries_of_report : (subject : Subject) (report : Report) → IsReport subject report
    → (classed : List ClassedEntry) × (map (λ (c : ClassedEntry). c.entry) classed ≡ report.entries) × AreClassedEntriesOf subject classed
entries_of_report subject report is =
    let with = with_classes subject report.entries is.each_right in (
      with.classed,
      with.entries_are,
      record { each = with.each; all = there with },
    )
  where
    there : (with : WithClasses subject report.entries) (fault : Fault) → IsShown subject fault → HasEntryOf with.classed fault
    there with fault shown =
        let (entry, has, same) = from_map (λ (e : ReportEntry). e.seen.fault) report.entries fault (is.all_shown fault shown) in
        let (classed, among, of) = from_map (λ (c : ClassedEntry). c.entry) with.classed entry (subst (λ (es : List ReportEntry). Contains es entry) (sym with.entries_are) has) in
        record { classed = classed; among = among; of_fault = ap (λ (e : ReportEntry). e.seen.fault) of ∙ same }
