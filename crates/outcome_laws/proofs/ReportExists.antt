-- Each subject has a report: its classes are a list, each shows a list of faults, and each fault has its first class, type
-- and walk.
use Rattle.std.proofs.Common.{◌≡◌, ◌≢◌, ◌∙◌, ℕ, ◌+◌, ◌≤◌, Bool, true, false, List, [], ◌∷◌, map, flat_map, length, Contains, AllPairs, Option, Some, None, Less, refl, sym, ap, subst, arith}
use Rattle.std.specs.Prelude.{slice_get}
use Rattle.std.specs.List.{AllByRecursion}
use Rattle.std.specs.declared.cmp.Ordering.{Ordering}
use Rattle.std.specs.Cmp.{IsTotalOrder}
use Rattle.std.proofs.lemmas.Cmp.{on_total}
use Rattle.std.proofs.lemmas.List.Kept.{AllPairs-cons}
use Rattle.dns_data.specs.Name.{Labels, IsName}
use Rattle.dns_data.specs.RrType.{number_of}
use Rattle.dns_data.specs.declared.rr_type.RrType.{RrType}
use Rattle.dns_data.proofs.Membership.{has_first, has_later, map_has, from_map, flat_map_has, from_flat_map, all_from_contains, each_along, pairs_first, pairs_rest}
use Rattle.dns_data.proofs.Names.{is_name, is_name_tells, is_name_told}
use Rattle.graph_form.specs.FirstFaults.{AreFirsts, IsRanked}
use Rattle.graph_form.specs.Report.{Subject, ClassShows, IsEntry, IsReport, repeats}
use Rattle.graph_form.specs.Verdict.{AreShownOf}
use Rattle.graph_form.specs.declared.report.Report.{Report}
use Rattle.graph_form.specs.declared.report.ReportEntry.{ReportEntry}
use Rattle.graph_form.specs.declared.report.Seen.{Seen}
use Rattle.net_model.specs.declared.class.Class.{Class}
use Rattle.net_model.specs.declared.config.Config.{Config}
use Rattle.net_model.specs.declared.fault.Fault.{Fault}
use Rattle.net_model.specs.declared.walk.Walk.{Walk}
use Rattle.net_model.specs.Class.{class_cmp}
use Rattle.net_model.specs.FaultOrder.{fault_cmp}
use Rattle.net_model.specs.Learnt.{IsInForce}
use Rattle.net_model.specs.Reading.{ground_of}
use Rattle.net_model.specs.Shown.{Shows, ShowsIn, with_sets}
use Rattle.net_model.specs.Step.{Setting, following}
use Rattle.net_model.proofs.FaultOrder.{classes_total, faults_total}
use Rattle.net_model.proofs.InForce.{some_in_force}
use Rattle.graph_form.proofs.FirstTypes.{one_fault}
use Rattle.query_classes.specs.ClassList.{ListedClass, AreListed}
use Rattle.query_verdicts.specs.Carried.{whole_config}
use Rattle.query_verdicts.specs.Entries.{AreEntries}
use Rattle.query_verdicts.specs.Subjects.{IsCovering}
use Rattle.query_verdicts.proofs.Carrying.{is_name_of}
use Rattle.query_verdicts.proofs.CoveringGrounds.{in_own_class, is_closed, root_in_tree}
use Rattle.query_verdicts.proofs.FaultsExist.{faults_exist}
use Rattle.query_verdicts.proofs.FirstWalksShow.{shows_with}
use Rattle.query_verdicts.proofs.Rising.{one_item}
use Rattle.query_verdicts.proofs.WholeReport.{is_report}
use Rattle.walk_laws.proofs.JoinedGround.{own_covers}
use Rattle.outcome_laws.proofs.FirstsExist.{firsts_exist}
use Rattle.outcome_laws.proofs.FirstWalksExist.{first_walks_exist}
use Rattle.outcome_laws.proofs.TreeListed.{part_exists, below_exist, classes_exist}

-- a fault with a class that shows it, first with this type
record ClassFault : Type 0 where
  seen : Seen
  class : Class

abbrev found_fault : ClassFault → Fault
found_fault found = found.seen.fault

-- the order of the classes that show one fault
abbrev class_rank : ClassFault → ClassFault → Ordering
class_rank a b = class_cmp a.class b.class

abbrev class_fault : Class → Seen → ClassFault
class_fault class seen = record { seen = seen; class = class }

ranks_total : IsTotalOrder class_rank
ranks_total = on_total (λ (a : ClassFault). a.class) classes_total

module _ (subject : Subject) (covering : IsCovering subject) (followed : List Labels) (in_force : IsInForce subject.config subject.rewrites followed)
    (classes : List ListedClass) (listed : AreListed subject.ground subject.below classes) where
  abbrev setting : Setting
  setting = following subject.config subject.rewrites followed

  -- ---- the faults of each class

  abbrev shown_at : (query : Labels) (b : Bool) → is_name query ≡ b → List Seen
  shown_at query true e = (faults_exist setting query (in_own_class subject.config query (is_name_tells query e))).0
  shown_at query false e = []

  -- the faults that a query shows
  abbrev shown_of : Labels → List Seen
  shown_of query = shown_at query (is_name query) refl

  shown_are : (query : Labels) → IsName query → AreShownOf (with_sets setting) query (λ fault. true) (shown_of query)
  shown_are query is = by (is_name query) refl where
    by : (b : Bool) (e : is_name query ≡ b) → AreShownOf (with_sets setting) query (λ fault. true) (shown_at query b e)
    by true e = (faults_exist setting query (in_own_class subject.config query (is_name_tells query e))).1
    by false e = let no : false ≡ true = sym e ∙ is_name_told query is in cc

  abbrev found_of : ListedClass → List ClassFault
  found_of one = map (class_fault one.class) (shown_of one.representative)

  -- the faults of all classes
  abbrev all : List ClassFault
  all = flat_map found_of classes

  class_name_is : (one : ListedClass) → Contains classes one → IsName one.representative
  class_name_is one has = let is = (listed.all one).0 has in is_name_of subject covering one.class one.representative is.0 is.1

  -- a fault found for a class is shown by its representative, first with its type
  record IsFound (one : ClassFault) : Type 0 where
    query : Labels
    shows : ClassShows subject one.class query one.seen.rtype one.seen.fault
    first_type : (rtype : RrType) → ShowsIn subject.config subject.rewrites query rtype one.seen.fault → number_of one.seen.rtype ≤ number_of rtype

  each_found : (one : ClassFault) → Contains all one → IsFound one
  each_found one has =
      let (class, among, inside) = from_flat_map found_of classes one has in
      let (seen, shown, is) = from_map (class_fault class.class) (shown_of class.representative) one inside in
      let are = shown_are class.representative (class_name_is class among) in
      let in_class = (listed.all class).0 among in
      subst IsFound is
      (record {
        query = class.representative;
        shows = record {
          is_class = in_class.0;
          represents = in_class.1;
          shows = record {
            followed = followed;
            in_force = in_force;
            shows = each_along (λ (s : Seen). Shows (with_sets setting) class.representative s.rtype s.fault) (shown_of class.representative) are.each_shown seen shown;
          };
        };
        first_type = λ rtype shows.
            each_along (λ (s : Seen). (t : RrType) → Shows (with_sets setting) class.representative t s.fault → number_of s.rtype ≤ number_of t)
            (shown_of class.representative) are.first_type seen shown rtype
            (shows_with subject.config subject.rewrites followed in_force class.representative rtype seen.fault shows);
      })

  -- and each that a class shows is found
  complete : (class : Class) (query : Labels) (rtype : RrType) (fault : Fault) → ClassShows subject class query rtype fault
      → (one : ClassFault) × Contains all one × ((one.seen.fault ≡ fault) × (one.class ≡ class))
  complete class query rtype fault shows =
      let own : ListedClass = record { class = class; representative = query } in
      let among : Contains classes own = (listed.all own).1 (shows.is_class, shows.represents) in
      let are = shown_are query (class_name_is own among) in
      let (seen, shown, is) = from_map (λ (s : Seen). s.fault) (shown_of query) fault
      (are.all_shown fault rtype refl (shows_with subject.config subject.rewrites followed in_force query rtype fault shows.shows)) in (
        class_fault class seen,
        flat_map_has found_of classes own (class_fault class seen) among (map_has (class_fault class) (shown_of query) seen shown),
        (is, refl),
      )

  -- ---- the entries

  module _ (first : List ClassFault) (firsts : AreFirsts found_fault class_rank all first) where
    -- no class before that of the first one shows the fault
    first_class : (one : ClassFault) → Contains first one → (other : Class) (query : Labels) (rtype : RrType) → ClassShows subject other query rtype one.seen.fault
        → class_cmp other one.class ≢ Less
    first_class one has other query rtype shows =
        let (found, among, (fault_is, class_is)) = complete other query rtype one.seen.fault shows in
        let by : IsRanked found_fault class_rank first found = firsts.covers found among in
        let same : by.by ≡ one = one_item found_fault fault_cmp faults_total one_fault first firsts.ordered by.by one by.has has (by.fault_is ∙ fault_is) in
        subst (λ (c : Class). class_cmp c one.class ≢ Less) class_is (subst (λ (f : ClassFault). class_cmp found.class f.class ≢ Less) same by.not_later)

    abbrev repeats_of : Option Walk → Bool
    repeats_of None = false
    repeats_of (Some walk) = repeats walk.states

    -- each of the first ones has its entry
    entry_of : (one : ClassFault) → Contains first one → (entry : ReportEntry) × IsEntry subject entry × (entry.seen ≡ one.seen)
    entry_of one has =
        let found = each_found one (firsts.from one has) in
        let (walks, are) = first_walks_exist setting found.query one.seen.rtype one.seen.fault
        (shows_with subject.config subject.rewrites followed in_force found.query one.seen.rtype one.seen.fault found.shows.shows) in (
          record { seen = one.seen; query = found.query; repeats = repeats_of (slice_get walks 0); walks = walks },
          record {
            class = one.class;
            followed = followed;
            paths = are.paths;
            in_force = in_force;
            shown = found.shows;
            first_class = first_class one has;
            first_type = found.first_type;
            walks_show = are.show;
            first_walks = are.first;
            repeated = λ walk is. ap repeats_of is;
          },
          refl,
        )

    -- the entries of some of them, in turn
    record AreMade (some : List ClassFault) (entries : List ReportEntry) : Type 0 where
      ordered : AllPairs (λ a b. fault_cmp a.seen.fault b.seen.fault ≡ Less) entries
      each_right : AllByRecursion (IsEntry subject) entries
      faults : map (λ (e : ReportEntry). e.seen.fault) entries ≡ map found_fault some

    entries_of : (some : List ClassFault) → ((one : ClassFault) → Contains some one → Contains first one)
        → AllPairs (λ a b. fault_cmp (found_fault a) (found_fault b) ≡ Less) some → (entries : List ReportEntry) × AreMade some entries
    entries_of [] inside rises = ([], record { ordered = λ i j d before within. absurd (omega arith); each_right = tt; faults = refl })
    entries_of (one ∷ some) inside rises =
        let (entry, is, seen_is) = entry_of one (inside one (has_first one some)) in
        let (entries, made) = entries_of some (λ other has. inside other (has_later one some other has))
        (pairs_rest (λ a b. fault_cmp (found_fault a) (found_fault b) ≡ Less) one some rises) in
        let fault_is : entry.seen.fault ≡ one.seen.fault = ap (λ (s : Seen). s.fault) seen_is in (
          entry ∷ entries,
          record {
            ordered =
                AllPairs-cons (λ a b. fault_cmp a.seen.fault b.seen.fault ≡ Less) entry entries
                (all_from_contains (λ (b : ReportEntry). fault_cmp entry.seen.fault b.seen.fault ≡ Less) entries
                (λ b has.
                let among : Contains (map found_fault some) b.seen.fault =
                subst (λ (l : List Fault). Contains l b.seen.fault) made.faults (map_has (λ (e : ReportEntry). e.seen.fault) entries b has) in
                let (other, there, same) = from_map found_fault some b.seen.fault among in
                ap (λ (f : Fault). fault_cmp f b.seen.fault) fault_is ∙ ap (fault_cmp one.seen.fault) (sym same)
                ∙ pairs_first (λ a b. fault_cmp (found_fault a) (found_fault b) ≡ Less) one some rises other there))
                made.ordered;
            each_right = (is, made.each_right);
            faults = ap (λ (f : Fault). f ∷ map (λ (e : ReportEntry). e.seen.fault) entries) fault_is ∙ ap (λ rest. one.seen.fault ∷ rest) made.faults;
          },
        )

    -- the entries of all first ones are those of the faults that some class shows
    entries_exist : (entries : List ReportEntry) × AreEntries subject entries
    entries_exist =
        let (entries, made) = entries_of first (λ one has. has) firsts.ordered in (
          entries,
          record {
            ordered = made.ordered;
            each_right = made.each_right;
            all_shown = λ fault (class, query, rtype, shows).
                let (found, among, (fault_is, class_is)) = complete class query rtype fault shows in
                let by : IsRanked found_fault class_rank first found = firsts.covers found among in
                subst (λ (l : List Fault). Contains l fault) (sym made.faults)
                (subst (Contains (map found_fault first)) (by.fault_is ∙ fault_is) (map_has found_fault first by.by by.has));
          },
        )

  entries_of_all : (entries : List ReportEntry) × AreEntries subject entries
  entries_of_all = let (first, firsts) = firsts_exist found_fault class_rank ranks_total all in entries_exist first firsts

-- a subject whose ground covers its configuration has a report
pub subject_has_report : (subject : Subject) → IsCovering subject → (report : Report) × IsReport subject report
subject_has_report subject covering =
    let closed = is_closed subject.config subject.ground covering.covers in
    let (followed, in_force) = some_in_force subject.config subject.rewrites in
    let (part, is_part) = part_exists subject.ground closed subject.below covering.in_tree in
    let (below, are_below) = below_exist subject.ground closed part in
    let (classes, listed) = classes_exist subject.ground closed subject.below part is_part in
    let (entries, are) = entries_of_all subject covering followed in_force classes listed in
    let report : Report = record { classes = length part + length below; names = length part; rewrites = subject.rewrites; entries = entries } in (
      report,
      is_report subject covering report
          (record { part = part; below = below; is_part = is_part; are_below = are_below; counts_names = refl; counts_classes = refl }) refl are,
    )

-- so has a whole configuration
pub config_has_report : (config : Config) (rewrites : ℕ) → (report : Report) × IsReport (whole_config config rewrites) report
config_has_report config rewrites =
    let covers = own_covers config in
    subject_has_report (whole_config config rewrites) (record { covers = covers; in_tree = root_in_tree config (ground_of config) covers })
