-- The lines of the rows of a configuration's class tree are the list of its classes.
use Rattle.std.proofs.Common.{◌≡◌, ◌++◌, ℕ, List, [], ◌∷◌, inr, sym, refl, ap, ◌∙◌}
use Rattle.std.proofs.lemmas.Grind.{flat_map-append}
use Rattle.net_model.specs.declared.config.Config.{Config}
use Rattle.net_model.specs.Reading.{ground_of}
use Rattle.query_classes.specs.ClassList.{ListedClass, AreListed, classes_of_row, classes_of_rows}
use Rattle.query_classes.specs.declared.tree.ClassRow.{ClassRow}
use Rattle.run_endings.specs.declared.ending.Ending.{Ending}
use Rattle.run_endings.specs.declared.status.Status.TheVariants.{Clean}
use Rattle.groot_run.specs.ClassList.{class_line, class_list_text}
use Rattle.groot_run.specs.ClassRows.{rows_text}
use Rattle.run_endings.specs.Endings.{with_output}
use Rattle.report_run.specs.Budgets.{HasMoreNames}
use Rattle.groot_run.specs.Outcome.{listed, ListsClasses}

-- the lines of rows are those of their classes
text_by_rows : (rows : List ClassRow) → rows_text rows ≡ class_list_text (classes_of_rows rows)
text_by_rows [] = refl
text_by_rows (row ∷ rows) =
    ap (λ (text : List ℕ). class_list_text (classes_of_row row) ++ text) (text_by_rows rows)
    ∙ sym (flat_map-append (λ (listed : ListedClass). class_line listed.class listed.representative) (classes_of_row row) (classes_of_rows rows))

-- if rows are those of the configuration's classes, their lines are what `classes` lists
pub lists_classes : (config : Config) (limit : ℕ) (rows viewed : List ClassRow) (ending : Ending) → rows ≡ viewed
    → AreListed (ground_of config) [] (classes_of_rows viewed) → (HasMoreNames config limit → ⊥) → ending ≡ with_output Clean (rows_text rows)
    → ListsClasses limit config ending
lists_classes config limit rows viewed ending is are few lists =
    inr (
      few,
      record {
        classes = classes_of_rows viewed;
        are_listed = are;
        as_text = lists ∙ ap (λ (text : List ℕ). with_output Clean text) (text_by_rows rows) ∙ ap (λ (rs : List ClassRow). listed (classes_of_rows rs)) is;
      },
    )
