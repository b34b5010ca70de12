-- The lines of the rows of a class tree. The contracts of inner calls alone cite it.
use Rattle.std.specs.Prelude.{ℕ, List}
use Rattle.std.specs.List.{flat_map}
use Rattle.query_classes.specs.ClassList.{classes_of_row}
use Rattle.query_classes.specs.declared.tree.ClassRow.{ClassRow}
use Rattle.groot_run.specs.ClassList.{class_list_text}

-- the lines of rows, row by row
abbrev pub rows_text : List ClassRow → List ℕ
rows_text rows = flat_map (λ row. class_list_text (classes_of_row row)) rows
