-- The name by which a class goes is named, where a name stands for the class.
use Rattle.std.proofs.Common.{subst, sym}
use Rattle.dns_data.specs.Name.{Labels}
use Rattle.net_model.specs.Class.{IsClassOf, class_name}
use Rattle.net_model.specs.Reading.{Ground, IsNamed}
use Rattle.net_model.specs.declared.class.Class.{Class}
use Rattle.net_model.specs.declared.class.Class.TheVariants.{Exact, Below}
use Rattle.query_classes.specs.Members.{RepresentsClass}

-- so it is where a name is in the class
named_by : (ground : Ground) (name : Labels) (class : Class) → IsClassOf ground name class → IsNamed ground (class_name class)
named_by ground name (Exact alone) is = subst (λ (n : Labels). IsNamed ground n) (sym is.0) is.1
named_by ground name (Below above) is = is.1.named

-- where a name represents a class, the name by which the class goes is named
pub class_is_named : (ground : Ground) (class : Class) → ((name : Labels) × RepresentsClass ground class name) → IsNamed ground (class_name class)
class_is_named ground class (name, stands) = named_by ground name class stands.is_member
