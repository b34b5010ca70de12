-- The entries of the first classes make the report of the subject.
use Rattle.std.proofs.Common.{◌≡◌, ◌≢◌, ◌∙◌, ◌↔◌, List, [], ◌∷◌, map, Contains, refl, sym, ap, subst}
use Rattle.std.specs.List.{AllByRecursion}
use Rattle.std.specs.List.Sorted.{IsPermutation, IsSortedBy}
use Rattle.std.specs.declared.cmp.Ordering.TheVariants.{Less}
use Rattle.std.proofs.lemmas.List.Sorted.{Contains-permutation, IsPermutation-map, IsPermutation-sym}
use Rattle.dns_data.specs.Name.{Labels}
use Rattle.dns_data.specs.declared.rr_type.RrType.{RrType}
use Rattle.dns_data.proofs.Membership.{along, map_has}
use Rattle.interp_graph.proofs.ItemsByNumber.{beside_other}
use Rattle.graph_form.specs.FirstFaults.{AreFirsts, IsRanked}
use Rattle.graph_form.specs.Report.{Subject, ClassShows, IsEntry, IsReport, IsShown, IsTreeSize}
use Rattle.graph_form.specs.declared.report.Report.{Report}
use Rattle.graph_form.specs.declared.report.ReportEntry.{ReportEntry}
use Rattle.graph_form.proofs.FirstTypes.{one_fault}
use Rattle.net_model.specs.declared.class.Class.{Class}
use Rattle.net_model.specs.declared.fault.Fault.{Fault}
use Rattle.net_model.specs.Class.{class_cmp}
use Rattle.net_model.specs.FaultOrder.{fault_cmp}
use Rattle.net_model.proofs.FaultOrder.{faults_total}
use Rattle.verdict_book.specs.Items.{NoneTwice}
use Rattle.verdict_book.proofs.Places.{none_twice_permuted}
use Rattle.query_verdicts.specs.Carried.{SomeClassShows}
use Rattle.query_verdicts.specs.Entries.{AreEntries, AreEntriesOf, IsEntryOf, IsFirstClass, is_before}
use Rattle.query_verdicts.specs.Subjects.{IsCovering}
use Rattle.query_verdicts.specs.Rows.{class_rank, found_fault}
use Rattle.query_verdicts.specs.declared.first_classes.ClassFault.{ClassFault}
use Rattle.query_verdicts.proofs.Carrying.{shown_by_classes}
use Rattle.query_verdicts.proofs.Rising.{none_twice, one_item, rises}

module _ (subject : Subject) (all first : List ClassFault) (firsts : AreFirsts found_fault class_rank all first)
    (complete : (class : Class) (query : Labels) (rtype : RrType) (fault : Fault) → ClassShows subject class query rtype fault
    → (one : ClassFault) × Contains all one × ((one.seen.fault ≡ fault) × (one.class ≡ class))) where
  -- no class before that of the first one shows the fault
  first_class : (one : ClassFault) → Contains first one → IsFirstClass subject one
  first_class one has other query rtype shows =
      let (found, among, (fault_is, class_is)) = complete other query rtype one.seen.fault shows in
      let by : IsRanked found_fault class_rank first found = firsts.covers found among in
      let same : by.by ≡ one = one_item found_fault fault_cmp faults_total one_fault first firsts.ordered by.by one by.has has (by.fault_is ∙ fault_is) in
      subst (λ (c : Class). class_cmp c one.class ≢ Less) class_is (subst (λ (f : ClassFault). class_cmp found.class f.class ≢ Less) same by.not_later)

  faults_are : (some : List ClassFault) (entries : List ReportEntry) → AreEntriesOf subject some entries
      → map (λ (e : ReportEntry). e.seen.fault) entries ≡ map found_fault some
  faults_are [] [] are = refl
  faults_are [] (entry ∷ entries) are = absurd are
  faults_are (one ∷ some) [] are = absurd are
  faults_are (one ∷ some) (entry ∷ entries) (is, are) =
      ap (λ f. f ∷ map (λ (e : ReportEntry). e.seen.fault) entries) (ap (λ s. s.fault) is.seen_is)
      ∙ ap (λ rest. one.seen.fault ∷ rest) (faults_are some entries are)

  -- the entries of the first ones were made in some order, and then put in fault order
  module _ (some : List ClassFault) (same : IsPermutation first some) (made : List ReportEntry) (are : AreEntriesOf subject some made)
      (entries : List ReportEntry) (moved : IsPermutation made entries) (sorted : IsSortedBy is_before entries) where
    abbrev fault_of : ReportEntry → Fault
    fault_of entry = entry.seen.fault

    -- no fault has two entries
    once : NoneTwice (map fault_of entries)
    once =
        none_twice_permuted (map fault_of made) (map fault_of entries) (IsPermutation-map fault_of made entries moved)
        (subst (λ (faults : List Fault). NoneTwice faults) (sym (faults_are some made are))
        (none_twice_permuted (map found_fault first) (map found_fault some) (IsPermutation-map found_fault first some same)
        (none_twice found_fault fault_cmp faults_total one_fault first firsts.ordered)))

    each_right : (entry : ReportEntry) → Contains entries entry → IsEntry subject entry
    each_right entry has =
        let (one, among, is) =
        beside_other (IsEntryOf subject) some made entry are (Contains-permutation entries made entry (IsPermutation-sym made entries moved) has) in
        is.is_entry (first_class one (Contains-permutation some first one (IsPermutation-sym first some same) among))

    all_shown : (fault : Fault) → SomeClassShows subject fault → Contains (map fault_of entries) fault
    all_shown fault (class, query, rtype, shows) =
        let (found, among, (fault_is, class_is)) = complete class query rtype fault shows in
        let by : IsRanked found_fault class_rank first found = firsts.covers found among in
        let has : Contains (map found_fault some) fault =
        subst (Contains (map found_fault some)) (by.fault_is ∙ fault_is) (map_has found_fault some by.by (Contains-permutation first some by.by same by.has)) in
        Contains-permutation (map fault_of made) (map fault_of entries) fault (IsPermutation-map fault_of made entries moved)
        (subst (λ (faults : List Fault). Contains faults fault) (sym (faults_are some made are)) has)

    -- the entries of the first classes, sorted, are those of the faults that some class shows, in fault order
    pub are_entries : AreEntries subject entries
    are_entries =
        record {
          ordered = rises fault_of fault_cmp faults_total one_fault entries sorted once;
          each_right = along (IsEntry subject) entries each_right;
          all_shown = all_shown;
        }

-- the entries of a subject's faults, with the size of its tree, are its report
pub is_report : (subject : Subject) → IsCovering subject → (report : Report) → IsTreeSize subject.ground subject.below report.names report.classes
    → report.rewrites ≡ subject.rewrites → AreEntries subject report.entries → IsReport subject report
is_report subject covering report size limit are =
    record {
      size = size;
      limit = limit;
      ordered = are.ordered;
      each_right = are.each_right;
      each_shown = shown_each report.entries are.each_right;
      all_shown = λ fault shown. are.all_shown fault ((by_classes fault).0 shown);
    }
  where
    by_classes : (fault : Fault) → IsShown subject fault ↔ SomeClassShows subject fault
    by_classes fault = shown_by_classes subject covering fault

    shown_each : (entries : List ReportEntry) → AllByRecursion (IsEntry subject) entries
        → AllByRecursion (λ (entry : ReportEntry). IsShown subject entry.seen.fault) entries
    shown_each [] right = tt
    shown_each (entry ∷ entries) right = (
      (by_classes entry.seen.fault).1 (right.0.class, entry.query, entry.seen.rtype, right.0.shown),
      shown_each entries right.1,
    )
