-- A ground has one list of classes at or below a name.
use Rattle.std.proofs.Common.{◌≡◌, List}
use Rattle.std.specs.Ordering.{on}
use Rattle.std.proofs.lemmas.Cmp.{on_total}
use Rattle.dns_data.specs.Name.{Labels}
use Rattle.net_model.specs.Class.{class_cmp}
use Rattle.net_model.specs.Reading.{Ground}
use Rattle.query_classes.specs.ClassList.{ListedClass, AreListed}
use Rattle.net_model.proofs.FaultOrder.{classes_total}
use Rattle.dns_data.proofs.OrderedLists.{same_rising}

-- two lists of the classes of one part of a tree are equal
pub one_class_list : (ground : Ground) (above : Labels) (a b : List ListedClass) → AreListed ground above a → AreListed ground above b → a ≡ b
one_class_list ground above a b p q =
    same_rising (on (λ (listed : ListedClass). listed.class) class_cmp) (on_total (λ (listed : ListedClass). listed.class) classes_total)
    a b p.ordered q.ordered
    (λ listed has. (q.all listed).1 ((p.all listed).0 has)) (λ listed has. (p.all listed).1 ((q.all listed).0 has))
