-- For the code alone, no public clause cites it: what is written of a part, by the class tree of the base names that are
-- left.
use Rattle.std.specs.Prelude.{◌≡◌, ℕ, ◌+◌, List, [], length, map}
use Rattle.std.specs.List.{AllByRecursion}
use Rattle.graph_form.specs.declared.report.ReportEntry.{ReportEntry}
use Rattle.net_model.specs.Class.{IsClassOf}
use Rattle.net_model.specs.Reading.{Ground}
use Rattle.net_model.specs.Tree.{AreBelowClasses, IsTreePart}
use Rattle.net_model.specs.declared.class.Class.{Class}
use Rattle.query_classes.specs.Rows.{tree_names, below_names}
use Rattle.query_classes.specs.declared.tree.ClassRow.{ClassRow}
use Rattle.own_names.specs.OwnNames.{own_below, own_tree}
use Rattle.own_names.specs.declared.counts.OwnCounts.{OwnCounts}
use Rattle.part_form.specs.PartText.{ClassedEntry, WrittenPart, part_text}
use Rattle.part_form.specs.Written.{IsReadable}
use Rattle.part_names.specs.declared.names.PartNames.{PartNames}
use Rattle.run_endings.specs.Endings.{with_output}
use Rattle.run_endings.specs.declared.ending.Ending.{Ending}
use Rattle.part_run.specs.PartReported.{faults_status}

-- the numbers are those of the own names and classes of the ground's class tree
pub record AreCountsOf (ground : Ground) (names : PartNames) (counts : OwnCounts) : Type 0 where
  pub rows : List ClassRow
  pub tree : IsTreePart ground [] (tree_names rows)
  pub below : AreBelowClasses ground (tree_names rows) (below_names rows)
  pub names_are : counts.names ≡ length (own_tree names rows)
  pub classes_are : counts.classes ≡ length (own_tree names rows) + length (own_below names rows)

-- the entry's query has this one class
pub record HasClass (ground : Ground) (classed : ClassedEntry) : Type 0 where
  pub is_class : IsClassOf ground classed.entry.query classed.class
  pub one : (other : Class) → IsClassOf ground classed.entry.query other → other ≡ classed.class

-- the text is that of a part with these bounds, own numbers and entries
pub record IsTextOf (ground : Ground) (names : PartNames) (rewrites : ℕ) (entries : List ReportEntry) (text : List ℕ) : Type 0 where
  pub written : WrittenPart
  pub counts : OwnCounts
  pub are_counts : AreCountsOf ground names counts
  pub from_is : written.from ≡ names.from
  pub to_is : written.to ≡ names.to
  pub names_are : written.names ≡ counts.names
  pub classes_are : written.classes ≡ counts.classes
  pub limit : written.rewrites ≡ rewrites
  pub entries_are : map (λ classed. classed.entry) written.entries ≡ entries
  pub classes : AllByRecursion (HasClass ground) written.entries
  pub readable : IsReadable written
  pub text_is : text ≡ part_text written

-- the run ends with such a text, and a status that says whether there is an entry
pub record EndsWritten (ground : Ground) (names : PartNames) (rewrites : ℕ) (entries : List ReportEntry) (ending : Ending) : Type 0 where
  pub text : List ℕ
  pub is_text : IsTextOf ground names rewrites entries text
  pub as_text : ending ≡ with_output (faults_status entries) text
