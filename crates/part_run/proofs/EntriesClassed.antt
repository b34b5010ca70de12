-- The entries of what is left, each with the class of its query.
use Rattle.std.proofs.Common.{◌≡◌, ◌∙◌, ℕ, List, [], ◌∷◌, ◌++◌, map, Contains, sym, refl, ap, subst}
use Rattle.std.specs.List.{AllByRecursion, AllZip}
use Rattle.dns_data.specs.Name.{Labels}
use Rattle.dns_data.proofs.Membership.{each_along, from_map, map_has}
use Rattle.graph_form.specs.Report.{IsEntry, IsReport, IsShown, Subject}
use Rattle.graph_form.specs.declared.report.Report.{Report}
use Rattle.graph_form.specs.declared.report.ReportEntry.{ReportEntry}
use Rattle.net_model.specs.Class.{class_name, IsClassOf, IsRepresentative}
use Rattle.net_model.specs.Reading.{Ground, IsNamed, ground_of}
use Rattle.net_model.specs.declared.class.Class.{Class}
use Rattle.net_model.specs.declared.class.Class.TheVariants.{Exact, Below}
use Rattle.net_model.specs.declared.config.Config.{Config}
use Rattle.net_model.specs.declared.fault.Fault.{Fault}
use Rattle.label_graph.specs.LiveSet.{IsClosed}
use Rattle.label_graph.specs.Pairs.{AreSame}
use Rattle.label_graph.proofs.BaseGround.{ground_closed}
use Rattle.query_classes.proofs.ClassLaws.{in_below}
use Rattle.query_classes.proofs.SameGrounds.{class_same, same_back}
use Rattle.query_verdicts.specs.Carried.{whole_config}
use Rattle.part_form.specs.PartText.{ClassedEntry}
use Rattle.part_texts.specs.Writing.{classed_text}
use Rattle.part_form.specs.Written.{IsNamedEntry}
use Rattle.part_texts.specs.declared.writing.ClassedText.{ClassedText}
use Rattle.part_reports.specs.Gathered.{AreClassedEntriesOf, HasEntryOf, IsClassedEntry}
use Rattle.part_run.specs.KeptEntry.{IsClassedText, kept_entry}
use Rattle.part_run.specs.PartWritten.{HasClass}
use Rattle.part_run.specs.declared.entry.KeptEntry.{KeptEntry}

-- entries with their classes, of which these are the texts
pub record AreClassed (ground : Ground) (entries : List ReportEntry) (texts : List ClassedText) : Type 0 where
  pub classed : List ClassedEntry
  pub entries_are : map (λ (c : ClassedEntry). c.entry) classed ≡ entries
  pub texts_are : texts ≡ map classed_text classed
  pub classes : AllByRecursion (HasClass ground) classed
  pub named : AllByRecursion IsNamedEntry classed

pub classed_by_texts : (ground : Ground) (entries : List ReportEntry) (texts : List ClassedText)
    → AllZip (IsClassedText ground) (map kept_entry entries) texts → AreClassed ground entries texts
classed_by_texts ground [] [] are = record { classed = []; entries_are = refl; texts_are = refl; classes = tt; named = tt }
classed_by_texts ground [] (text ∷ texts) are = absurd are
classed_by_texts ground (entry ∷ entries) [] are = absurd are
classed_by_texts ground (entry ∷ entries) (text ∷ texts) (one, more) =
    let rest = classed_by_texts ground entries texts more in
    let first : ClassedEntry = record { class = text.class; entry = entry } in
    record {
      classed = first ∷ rest.classed;
      entries_are = ap (λ (es : List ReportEntry). entry ∷ es) rest.entries_are;
      texts_are =
          ap (λ (t : List ℕ). record { class = text.class; text = t } ∷ texts) one.same
          ∙ ap (λ (ts : List ClassedText). classed_text first ∷ ts) rest.texts_are;
      classes = (record { is_class = one.is_class; one = one.one }, rest.classes);
      named = (record { class = one.class_named; fault = one.fault_named }, rest.named);
    }

-- what is kept of one more entry, and its text with the class of its query
pub one_more_text : (ground : Ground) (kept : List KeptEntry) (texts : List ClassedText) (one : KeptEntry) (text : ClassedText)
    → AllZip (IsClassedText ground) kept texts → IsClassedText ground one text → AllZip (IsClassedText ground) (kept ++ one ∷ []) (texts ++ text ∷ [])
one_more_text ground [] [] one text are is = (is, tt)
one_more_text ground [] (first ∷ texts) one text are is = absurd are
one_more_text ground (first ∷ kept) [] one text are is = absurd are
one_more_text ground (first ∷ kept) (its ∷ texts) one text (stands, rest) is = (stands, one_more_text ground kept texts one text rest is)

-- the representative of a class that goes by a named name is in it
represents_in : (ground : Ground) → IsClosed ground → (class : Class) (query : Labels) → IsNamed ground (class_name class) → IsRepresentative ground class query
    → IsClassOf ground query class
represents_in ground closed (Exact alone) query named is = (sym is, subst (IsNamed ground) (sym is) named)
represents_in ground closed (Below above) query named stands =
    subst (λ (name : Labels). IsClassOf ground name (Below above)) (sym stands.extends)
    (in_below ground closed above stands.label [] named stands.first.unnamed)

module _ (config : Config) (rewrites : ℕ) (graph : Ground) (same : AreSame graph (ground_of config)) where
  abbrev subject : Subject
  subject = whole_config config rewrites

  -- an entry of the report has the one class of its query
  right_class : (classed : ClassedEntry) → IsEntry subject classed.entry → HasClass graph classed → IsClassedEntry subject classed
  right_class classed is has =
      let of_ground = represents_in (ground_of config) (ground_closed config) is.class classed.entry.query is.shown.is_class.named is.shown.represents in
      record {
        is = is;
        class_is = has.one is.class (class_same (ground_of config) graph (same_back graph (ground_of config) same) classed.entry.query is.class of_ground);
      }

  -- so the entries of a report with the classes of their queries are right with them
  pub classed_entries : (report : Report) → IsReport subject report → (classed : List ClassedEntry) → map (λ (c : ClassedEntry). c.entry) classed ≡ report.entries
      → AllByRecursion (HasClass graph) classed → AreClassedEntriesOf subject classed
  classed_entries report is classed are classes = record { each = each; all = all } where
    each : (c : ClassedEntry) → Contains classed c → IsClassedEntry subject c
    each c has =
        right_class c
        (each_along (IsEntry subject) report.entries is.each_right c.entry
        (subst (λ (es : List ReportEntry). Contains es c.entry) are (map_has (λ (c : ClassedEntry). c.entry) classed c has)))
        (each_along (HasClass graph) classed classes c has)

    all : (fault : Fault) → IsShown subject fault → HasEntryOf classed fault
    all fault shown =
        let (entry, has, of) = from_map (λ (e : ReportEntry). e.seen.fault) report.entries fault (is.all_shown fault shown) in
        let (c, among, its) = from_map (λ (c : ClassedEntry). c.entry) classed entry (subst (λ (es : List ReportEntry). Contains es entry) (sym are) has) in
        record { classed = c; among = among; of_fault = ap (λ (e : ReportEntry). e.seen.fault) its ∙ of }
