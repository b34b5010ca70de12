-- Names, classes and faults are read of the values that report_json makes of them.
use Rattle.std.proofs.Common.{◌≡◌, [], Some, None, codes, refl, ap}
use Rattle.dns_data.specs.Name.{Labels, IsName}
use Rattle.dns_data.specs.RrType.{word_of, type_of_word}
use Rattle.dns_data.specs.Spelling.{name_text}
use Rattle.dns_data.specs.declared.rr_type.RrType.{RrType}
use Rattle.dns_data.specs.declared.rr_type.RrType.TheVariants as types
use Rattle.dns_data.proofs.RoundTrip.{text_reads_back}
use Rattle.net_model.specs.Class.{class_name}
use Rattle.net_model.specs.declared.class.Class.{Class}
use Rattle.net_model.specs.declared.class.Class.TheVariants.{Exact, Below}
use Rattle.net_model.specs.declared.fault.Fault.{Fault}
use Rattle.net_model.specs.declared.fault.Fault.TheVariants.{Lame, Differs, NoGlue, GlueDiffers, Cyclic, Limit, Blackhole, Answers, Overlong, NoAddress}
use Rattle.net_model.specs.declared.place.Cut.{Cut}
use Rattle.net_model.specs.declared.place.Place.{Place}
use Rattle.report_json.specs.Faults.{kind_word, cut_value, place_value, class_value, class_kind, fault_value}
use Rattle.part_form.specs.Places.{if_name, name_of, class_of, class_in, cut_in, place_in, answers_in, fault_at}
use Rattle.part_form.specs.Written.{IsNamedCut, IsNamedPlace, IsNamedFault}

-- the text of a name is read as the name
pub name_read : (name : Labels) → IsName name → name_of (name_text name) ≡ Some name
name_read name is = ap if_name (text_reads_back name [] is)

-- the word of a class and its name make the class
pub class_made : (class : Class) → class_of (class_kind class) (class_name class) ≡ Some class
class_made (Exact name) = refl
class_made (Below name) = refl

-- the words of types are those of types
pub type_made : (rtype : RrType) → type_of_word (word_of rtype) ≡ Some rtype
type_made types.A = refl
type_made types.Ns = refl
type_made types.Cname = refl
type_made types.Soa = refl
type_made types.Ptr = refl
type_made types.Mx = refl
type_made types.Txt = refl
type_made types.Aaaa = refl
type_made types.Srv = refl
type_made types.Dname = refl
type_made types.Caa = refl
type_made types.Hinfo = refl

cut_read : (cut : Cut) → IsNamedCut cut → cut_in (cut_value cut) ≡ Some cut
cut_read cut named = rw (name_read cut.server named.server, name_read cut.zone named.zone, name_read cut.cut named.cut_is, name_read cut.ns named.ns) refl

place_read : (place : Place) → IsNamedPlace place → place_in (place_value place) ≡ Some place
place_read place named = rw (name_read place.server named.server, name_read place.zone named.zone, name_read place.owner named.owner) refl

no_cut : (place : Place) → IsNamedPlace place → cut_in (place_value place) ≡ None
no_cut place named = rw (name_read place.server named.server, name_read place.zone named.zone) refl

class_read : (class : Class) (rtype : RrType) → IsName (class_name class) → class_in (class_value class rtype) ≡ Some class
class_read class rtype named = rw (name_read (class_name class) named) (class_made class)

answers_read : (class : Class) (rtype : RrType) → IsName (class_name class)
    → answers_in (codes "answers-differ") (class_value class rtype) ≡ Some (Answers class rtype)
answers_read class rtype named = rw (class_read class rtype named, type_made rtype) refl

-- the fault of a kind's word and a place's value is the fault
pub fault_read : (fault : Fault) → IsNamedFault fault → fault_at (kind_word fault) (fault_value fault) ≡ Some fault
fault_read (Lame cut) named = rw (cut_read cut named) refl
fault_read (Differs cut) named = rw (cut_read cut named) refl
fault_read (NoGlue cut) named = rw (cut_read cut named) refl
fault_read (GlueDiffers cut) named = rw (cut_read cut named) refl
fault_read (Cyclic cut) named = rw (cut_read cut named) refl
fault_read (NoAddress cut) named = rw (cut_read cut named) refl
fault_read (Limit place) named = rw (no_cut place named, place_read place named) refl
fault_read (Blackhole place) named = rw (no_cut place named, place_read place named) refl
fault_read (Overlong place) named = rw (no_cut place named, place_read place named) refl
fault_read (Answers class rtype) named = answers_read class rtype named
