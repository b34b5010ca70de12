-- Faults as values of JSON: the word of their kind, and their place.
use Rattle.std.specs.Prelude.{ℕ, List, [], ◌∷◌, codes}
use Rattle.dns_data.specs.RrType.{word_of}
use Rattle.dns_data.specs.declared.rr_type.RrType.{RrType}
use Rattle.net_model.specs.declared.class.Class.{Class}
use Rattle.net_model.specs.declared.class.Class.TheVariants.{Exact, Below}
use Rattle.net_model.specs.declared.fault.Fault.{Fault}
use Rattle.net_model.specs.declared.fault.Fault.TheVariants.{Lame, Differs, NoGlue, GlueDiffers, Cyclic, Limit, Blackhole, Answers, Overlong, NoAddress}
use Rattle.net_model.specs.declared.place.Cut.{Cut}
use Rattle.net_model.specs.declared.place.Place.{Place}
use Rattle.serde_json.specs.Data.{Data, string}
use Rattle.net_model.specs.Class.{class_name}
use Rattle.report_json.specs.Json.{object_of, name_value}

-- the word of a kind of fault
abbrev pub kind_word : Fault → List ℕ
kind_word (Lame cut) = codes "lame-delegation"
kind_word (Differs cut) = codes "delegation-differs"
kind_word (NoGlue cut) = codes "missing-glue"
kind_word (GlueDiffers cut) = codes "glue-differs"
kind_word (Cyclic cut) = codes "cyclic-dependency"
kind_word (Limit place) = codes "rewrite-limit"
kind_word (Blackhole place) = codes "blackhole"
kind_word (Answers class rtype) = codes "answers-differ"
kind_word (Overlong place) = codes "overlong"
kind_word (NoAddress cut) = codes "no-address"

-- the JSON value of the place of a fault of a delegation
abbrev pub cut_value : Cut → Data
cut_value cut = object_of (
    (codes "cut", name_value cut.cut)
    ∷ (codes "ns", name_value cut.ns)
    ∷ (codes "server", name_value cut.server)
    ∷ (codes "zone", name_value cut.zone) ∷ [])

-- the JSON value of the place of a rewrite
abbrev pub place_value : Place → Data
place_value place = object_of (
    (codes "owner", name_value place.owner)
    ∷ (codes "server", name_value place.server)
    ∷ (codes "zone", name_value place.zone) ∷ [])

-- what a class is of: one name alone, or the names below one
abbrev pub class_kind : Class → List ℕ
class_kind (Exact name) = codes "exact"
class_kind (Below name) = codes "below"

-- the JSON value of a class and a type
abbrev pub class_value : Class → RrType → Data
class_value class rtype = object_of (
    (codes "class", string (class_kind class))
    ∷ (codes "name", name_value (class_name class))
    ∷ (codes "type", string (word_of rtype)) ∷ [])

-- the JSON value of the place of a fault
abbrev pub fault_value : Fault → Data
fault_value (Lame cut) = cut_value cut
fault_value (Differs cut) = cut_value cut
fault_value (NoGlue cut) = cut_value cut
fault_value (GlueDiffers cut) = cut_value cut
fault_value (Cyclic cut) = cut_value cut
fault_value (Limit place) = place_value place
fault_value (Blackhole place) = place_value place
fault_value (Answers class rtype) = class_value class rtype
fault_value (Overlong place) = place_value place
fault_value (NoAddress cut) = cut_value cut
