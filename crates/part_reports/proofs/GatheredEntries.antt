-- The gathered entries of parts that cover the whole are those of the whole's report.
use Rattle.std.proofs.Common.{◌≡◌, ◌≢◌, ℕ, List, [], ◌∷◌, map, Contains, AllPairs, sym, refl, ap, subst, ◌∙◌, inl, inr}
use Rattle.std.specs.Ordering.{ordering_reverse}
use Rattle.std.specs.declared.cmp.Ordering.{Ordering}
use Rattle.std.specs.declared.cmp.Ordering.TheVariants.{Less, Equal, Greater}
use Rattle.dns_data.specs.Name.{Labels}
use Rattle.dns_data.specs.declared.rr_type.RrType.{RrType}
use Rattle.dns_data.proofs.Membership.{none_in_nil, first_or_later, pairs_first, pairs_rest, map_has, from_map, flat_map_has, from_flat_map, all_images, pairs_of_images}
use Rattle.dns_data.proofs.OrderedLists.{never_before_itself}
use Rattle.graph_form.specs.FirstFaults.{AreFirsts}
use Rattle.graph_form.specs.Report.{ClassShows, IsEntry, IsShown, IsReport, IsTreeSize}
use Rattle.graph_form.specs.declared.report.ReportEntry.{ReportEntry}
use Rattle.net_model.specs.declared.class.Class.{Class}
use Rattle.net_model.specs.declared.config.Config.{Config}
use Rattle.net_model.specs.declared.fault.Fault.{Fault}
use Rattle.net_model.specs.Class.{class_name, class_cmp}
use Rattle.net_model.specs.FaultOrder.{fault_cmp}
use Rattle.net_model.specs.Reading.{ground_of}
use Rattle.net_model.proofs.FaultOrder.{classes_total, faults_total, one_class}
use Rattle.part_laws.specs.Part.{restricted}
use Rattle.query_verdicts.specs.Carried.{whole_config}
use Rattle.query_verdicts.proofs.Carrying.{shown_by_classes}
use Rattle.part_reports.specs.Gathered.{AreParts, IsClassedEntry, HasEntryOf, AreClassedEntriesOf, entries_of_all, entry_fault, class_order}
use Rattle.part_form.specs.PartText.{ClassedEntry}
use Rattle.part_reports.specs.PartReport.{PartReport}
use Rattle.part_reports.proofs.LocalClasses.{whole_covers, local_in_some, class_shows_left}
use Rattle.part_reports.proofs.ShownByParts.{parts_show}
use Rattle.part_reports.proofs.EntriesAlike.{entry_whole}

-- what isn't after a class that isn't after a third isn't after the third
pub not_after : (a b c : Class) → class_cmp a b ≢ Less → class_cmp b c ≢ Less → class_cmp a c ≢ Less
not_after a b c first second less = by (class_cmp b a) refl where
  by : (o : Ordering) → class_cmp b a ≡ o → ⊥
  by Less e = second (classes_total.trans b a c e less)
  by Equal e = second (ap (λ (x : Class). class_cmp x c) (one_class b a e) ∙ less)
  by Greater e = first (classes_total.antisymm a b ∙ ap ordering_reverse e)

-- entries in fault order have one of each fault
one_each : (entries : List ClassedEntry) → AllPairs (λ a b. fault_cmp (entry_fault a) (entry_fault b) ≡ Less) entries
    → (a b : ClassedEntry) → Contains entries a → Contains entries b → entry_fault a ≡ entry_fault b → a ≡ b
one_each [] ordered a b has other same = absurd (none_in_nil a has)
one_each (first ∷ rest) ordered a b has other same =
    elim (first_or_later first rest a has) [
      | inl is ↦ elim (first_or_later first rest b other) [
        | inl also ↦ sym is ∙ also
        | inr later ↦ absurd (apart first b (pairs_first (λ x y. fault_cmp (entry_fault x) (entry_fault y) ≡ Less) first rest ordered b later) (ap entry_fault is ∙ same))
      ]
      | inr later ↦ elim (first_or_later first rest b other) [
        | inl also ↦ absurd (apart first a (pairs_first (λ x y. fault_cmp (entry_fault x) (entry_fault y) ≡ Less) first rest ordered a later) (ap entry_fault also ∙ sym same))
        | inr behind ↦ one_each rest (pairs_rest (λ x y. fault_cmp (entry_fault x) (entry_fault y) ≡ Less) first rest ordered) a b later behind same
      ]
    ]
  where
    apart : (x y : ClassedEntry) → fault_cmp (entry_fault x) (entry_fault y) ≡ Less → entry_fault x ≡ entry_fault y → ⊥
    apart x y less equal =
        never_before_itself fault_cmp faults_total (entry_fault y) (subst (λ (f : Fault). fault_cmp f (entry_fault y) ≡ Less) equal less)

module _ (config : Config) (rewrites : ℕ) (parts : List PartReport) (are : AreParts config (map (λ (part : PartReport). part.names) parts))
    (reported : (part : PartReport) → Contains parts part → AreClassedEntriesOf (whole_config (restricted part.names config) rewrites) part.entries)
    (gathered : List ClassedEntry) (are_firsts : AreFirsts entry_fault class_order (entries_of_all parts) gathered) where
  -- the part with these names
  of_names : (names : List Labels) → Contains (map (λ (part : PartReport). part.names) parts) names
      → (part : PartReport) × Contains parts part × (part.names ≡ names)
  of_names names among = from_map (λ (part : PartReport). part.names) parts names among

  -- a fault that a part shows has an entry among all
  entry_there : (names : List Labels) → Contains (map (λ (part : PartReport). part.names) parts) names → (fault : Fault)
      → IsShown (whole_config (restricted names config) rewrites) fault
      → (part : PartReport) × Contains parts part × (part.names ≡ names) × HasEntryOf part.entries fault
  entry_there names among fault shown =
      let (part, has, same) = of_names names among in
      (part, has, same, (reported part has).all fault (subst (λ (n : List Labels). IsShown (whole_config (restricted n config) rewrites) fault) (sym same) shown))

  -- no other entry of the fault of a gathered one has an earlier class
  none_earlier : (classed other : ClassedEntry) → Contains gathered classed → Contains (entries_of_all parts) other → entry_fault other ≡ entry_fault classed
      → class_cmp other.class classed.class ≢ Less
  none_earlier classed other has among same =
      let ranked = are_firsts.covers other among in
      subst (λ (c : ClassedEntry). class_cmp other.class c.class ≢ Less)
      (one_each gathered are_firsts.ordered ranked.by classed ranked.has has (ranked.fault_is ∙ same)) ranked.not_later

  -- no class of the whole that shows a gathered fault is before the class of the gathered entry
  none_before : (classed : ClassedEntry) → Contains gathered classed → (other : Class) (query : Labels) (rtype : RrType)
      → ClassShows (whole_config config rewrites) other query rtype classed.entry.seen.fault → class_cmp other classed.class ≢ Less
  none_before classed has other query rtype shows =
      let some = local_in_some config (map (λ (part : PartReport). part.names) parts) are (class_name other) in
      let in_part = class_shows_left config some.names some.part rewrites other query rtype classed.entry.seen.fault some.local shows in
      let shown = (shown_by_classes (whole_config (restricted some.names config) rewrites) (whole_covers (restricted some.names config) rewrites) classed.entry.seen.fault).1
      (other, query, rtype, in_part) in
      let (part, there, same, entry) = entry_there some.names some.among classed.entry.seen.fault shown in
      let right = (reported part there).each entry.classed entry.among in
      let first : class_cmp other entry.classed.class ≢ Less =
      λ less. right.is.first_class other query rtype
      (subst (λ (fault : Fault). ClassShows (whole_config (restricted part.names config) rewrites) other query rtype fault) (sym entry.of_fault)
      (subst (λ (n : List Labels). ClassShows (whole_config (restricted n config) rewrites) other query rtype classed.entry.seen.fault) (sym same) in_part))
      (ap (class_cmp other) right.class_is ∙ less) in
      not_after other entry.classed.class classed.class first
      (none_earlier classed entry.classed has (flat_map_has (λ (p : PartReport). p.entries) parts part entry.classed there entry.among) entry.of_fault)

  -- each gathered entry is right for the whole
  gathered_right : (classed : ClassedEntry) → Contains gathered classed → IsClassedEntry (whole_config config rewrites) classed
  gathered_right classed has =
      let (part, there, among) = from_flat_map (λ (p : PartReport). p.entries) parts classed (are_firsts.from classed has) in
      entry_whole config part.names (are.each part.names (map_has (λ (p : PartReport). p.names) parts part there)) rewrites classed
      ((reported part there).each classed among) (none_before classed has)

  -- and each fault of the whole has one
  gathered_all : (fault : Fault) → IsShown (whole_config config rewrites) fault → HasEntryOf gathered fault
  gathered_all fault shown =
      let (names, among, in_part) = (parts_show config (map (λ (part : PartReport). part.names) parts) are rewrites fault).0 shown in
      let (part, there, same, entry) = entry_there names among fault in_part in
      let ranked = are_firsts.covers entry.classed (flat_map_has (λ (p : PartReport). p.entries) parts part entry.classed there entry.among) in
      record { classed = ranked.by; among = ranked.has; of_fault = ranked.fault_is ∙ entry.of_fault }

  shown_of : (classed : ClassedEntry) → Contains gathered classed → IsShown (whole_config config rewrites) classed.entry.seen.fault
  shown_of classed has =
      let is = (gathered_right classed has).is in
      (shown_by_classes (whole_config config rewrites) (whole_covers config rewrites) classed.entry.seen.fault).1
      (is.class, classed.entry.query, classed.entry.seen.rtype, is.shown)

  -- with the size of the whole's class tree they are its report
  pub gathered_report : (names classes : ℕ) → IsTreeSize (ground_of config) [] names classes
      → IsReport (whole_config config rewrites) (record { classes = classes; names = names; rewrites = rewrites; entries = map (λ (c : ClassedEntry). c.entry) gathered })
  gathered_report names classes size =
      record {
        size = size;
        limit = refl;
        ordered = pairs_of_images (λ (c : ClassedEntry). c.entry) (λ (a b : ReportEntry). fault_cmp a.seen.fault b.seen.fault ≡ Less) gathered are_firsts.ordered;
        each_right = all_images (λ (c : ClassedEntry). c.entry) (IsEntry (whole_config config rewrites)) gathered (λ c has. (gathered_right c has).is);
        each_shown = all_images (λ (c : ClassedEntry). c.entry) (λ (e : ReportEntry). IsShown (whole_config config rewrites) e.seen.fault) gathered shown_of;
        all_shown = all_there;
      }
    where
      all_there : (fault : Fault) → IsShown (whole_config config rewrites) fault
          → Contains (map (λ (e : ReportEntry). e.seen.fault) (map (λ (c : ClassedEntry). c.entry) gathered)) fault
      all_there fault shown =
          let entry = gathered_all fault shown in
          subst (Contains (map (λ (e : ReportEntry). e.seen.fault) (map (λ (c : ClassedEntry). c.entry) gathered))) entry.of_fault
          (map_has (λ (e : ReportEntry). e.seen.fault) (map (λ (c : ClassedEntry). c.entry) gathered) entry.classed.entry
          (map_has (λ (c : ClassedEntry). c.entry) gathered entry.classed entry.among))
