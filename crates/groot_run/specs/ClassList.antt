-- The list of classes that `classes` writes.
use Rattle.std.specs.Prelude.{ℕ, List, ◌++◌, codes}
use Rattle.std.specs.List.{flat_map}
use Rattle.dns_data.specs.Name.{Labels}
use Rattle.dns_data.specs.Spelling.{name_text}
use Rattle.net_model.specs.declared.class.Class.{Class}
use Rattle.net_model.specs.declared.class.Class.TheVariants.{Exact, Below}
use Rattle.query_classes.specs.ClassList.{ListedClass}

-- the line of a class: of a name alone that name, of those below a name also the representative
abbrev pub class_line : Class → Labels → List ℕ
class_line (Exact name) representative = codes "exact " ++ (name_text name ++ codes "\n")
class_line (Below name) representative =
    codes "below " ++ (name_text name ++ (codes " " ++ (name_text representative ++ codes "\n")))

-- a line for each class
abbrev pub class_list_text : List ListedClass → List ℕ
class_list_text classes = flat_map (λ listed. class_line listed.class listed.representative) classes
