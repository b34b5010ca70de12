-- The classes at or below a name that aren't empty, in class order, and those of the rows of a class tree.
use Rattle.std.specs.Prelude.{◌≡◌, ◌↔◌, List, [], ◌∷◌, Contains, AllPairs, Option, Some, None}
use Rattle.std.specs.List.{flat_map}
use Rattle.std.specs.declared.cmp.Ordering.TheVariants.{Less}
use Rattle.dns_data.specs.Name.{Labels}
use Rattle.net_model.specs.declared.class.Class.{Class}
use Rattle.net_model.specs.declared.class.Class.TheVariants.{Exact, Below}
use Rattle.net_model.specs.Class.{class_cmp, class_name, IsRepresentative}
use Rattle.net_model.specs.Reading.{Ground}
use Rattle.net_model.specs.Tree.{IsInPart}
use Rattle.query_classes.specs.declared.tree.ClassRow.{ClassRow}

-- a class of query names, with the name that stands for it
pub record ListedClass : Type 0 where
  pub class : Class
  pub representative : Labels

-- the listed class is one of the tree at or below the name that isn't empty, with its representative
abbrev pub IsListed : Ground → Labels → ListedClass → Type 0
IsListed ground above listed =
    IsInPart ground above (class_name listed.class) × IsRepresentative ground listed.class listed.representative

-- the classes at or below the name that aren't empty, in class order
pub record AreListed (ground : Ground) (above : Labels) (classes : List ListedClass) : Type 0 where
  pub ordered : AllPairs (λ a b. class_cmp a.class b.class ≡ Less) classes
  pub all : (listed : ListedClass) → Contains classes listed ↔ IsListed ground above listed

-- the class below a name, unless it is empty
abbrev pub class_below : Labels → Option Labels → List ListedClass
class_below name None = []
class_below name (Some representative) = record { class = Below name; representative = representative } ∷ []

-- the classes of a row: of the name alone, and of those below it
abbrev pub classes_of_row : ClassRow → List ListedClass
classes_of_row row = record { class = Exact row.name; representative = row.name } ∷ class_below row.name row.below

-- the classes of rows
abbrev pub classes_of_rows : List ClassRow → List ListedClass
classes_of_rows rows = flat_map classes_of_row rows
