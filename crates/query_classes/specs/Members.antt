-- What a class has, and the name that stands for it.
use Rattle.std.specs.Prelude.{◌≡◌, ◌≤◌}
use Rattle.dns_data.specs.Name.{Labels, IsName, wire_octets}
use Rattle.net_model.specs.declared.class.Class.{Class}
use Rattle.net_model.specs.Class.{IsClassOf, IsRepresentative}
use Rattle.net_model.specs.Reading.{Ground}

-- no name is in the class
abbrev pub IsEmptyClass : Ground → Class → Type 0
IsEmptyClass ground class = (member : Labels) → IsName member → IsClassOf ground member class → ⊥

-- the name stands for the class: it is its representative and in it, and no name of the class has fewer octets
pub record RepresentsClass (ground : Ground) (class : Class) (name : Labels) : Type 0 where
  pub represents : IsRepresentative ground class name
  pub is_name : IsName name
  pub is_member : IsClassOf ground name class
  pub shortest : (member : Labels) → IsName member → IsClassOf ground member class → wire_octets name ≤ wire_octets member

-- the name is in one class, and a name stands for that
pub record IsInOneClass (ground : Ground) (query : Labels) : Type 0 where
  pub class : Class
  pub is : IsClassOf ground query class
  pub one : (other : Class) → IsClassOf ground query other → other ≡ class
  pub stands : (name : Labels) × RepresentsClass ground class name
