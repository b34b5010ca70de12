-- Names that are longer than what stands for the class beside them. The contracts of inner calls alone cite it.
use Rattle.std.specs.Prelude.{◌<◌, nat_lt, Bool, false, Option, Some, None}
use Rattle.dns_data.specs.Name.{Labels, wire_octets}
use Rattle.net_model.specs.declared.class.Class.TheVariants.{Below}
use Rattle.net_model.specs.Class.{IsRepresentative}
use Rattle.net_model.specs.Reading.{Ground}
use Rattle.part_checks.specs.Outside.{parent}

-- the class of unnamed names below the name above this one has a representative with fewer octets
pub record HasShorter (ground : Ground) (name : Labels) : Type 0 where
  pub representative : Labels
  pub represents : IsRepresentative ground (Below (parent name)) representative
  pub shorter : wire_octets representative < wire_octets name

-- there is a first name, with fewer octets than another
abbrev pub is_shorter : Option Labels → Labels → Bool
is_shorter None name = false
is_shorter (Some first) name = nat_lt (wire_octets first) (wire_octets name)
