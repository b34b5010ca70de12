-- What values of JSON say of names, classes and faults. Of each only the members are looked at that it has in a report.
use Rattle.std.specs.Prelude.{ℕ, nat_eq, List, [], codes, Option, Some, None, option_map, option_and_then, Result, Ok, Err, if◌then◌else◌}
use Rattle.std.specs.Cmp.Lexicographic.{pointwise}
use Rattle.std.specs.Option.{option_or}
use Rattle.dns_data.specs.Name.{Labels}
use Rattle.dns_data.specs.RrType.{type_of_word}
use Rattle.dns_data.specs.Spelling.{name_of_text}
use Rattle.dns_data.specs.declared.fault.NameFault.{NameFault}
use Rattle.dns_data.specs.declared.rr_type.RrType.{RrType}
use Rattle.meta_read.specs.Members.{text_at}
use Rattle.net_model.specs.declared.class.Class.{Class}
use Rattle.net_model.specs.declared.class.Class.TheVariants.{Exact, Below}
use Rattle.net_model.specs.declared.fault.Fault.{Fault}
use Rattle.net_model.specs.declared.fault.Fault.TheVariants.{Lame, Differs, NoGlue, GlueDiffers, Cyclic, Limit, Blackhole, Answers, Overlong, NoAddress}
use Rattle.net_model.specs.declared.place.Cut.{Cut}
use Rattle.net_model.specs.declared.place.Place.{Place}
use Rattle.serde_json.specs.Data.{Data}
use Rattle.serde_json.specs.Find.{get}

-- ---- names

-- the name, if there is one
abbrev pub if_name : Result Labels NameFault → Option Labels
if_name (Ok name) = Some name
if_name (Err fault) = None

-- the name for which a text stands, with the root as origin
abbrev pub name_of : List ℕ → Option Labels
name_of text = if_name (name_of_text text [])

-- the name at a key, by its text
abbrev pub name_at : List ℕ → Data → Option Labels
name_at key value = option_and_then name_of (text_at key value)

-- ---- classes

-- the class of a word and a name
abbrev pub class_of : List ℕ → Labels → Option Class
class_of word name =
    if pointwise nat_eq word (codes "exact") then Some (Exact name)
    else (if pointwise nat_eq word (codes "below") then Some (Below name) else None)

-- the class of an object: its word at `class`, its name at `name`
abbrev pub class_in : Data → Option Class
class_in value =
    option_and_then (λ word. option_and_then (class_of word) (name_at (codes "name") value)) (text_at (codes "class") value)

-- ---- faults

-- the name server of a delegation that an object tells
abbrev pub cut_in : Data → Option Cut
cut_in value =
    option_and_then (λ server. option_and_then (λ zone. option_and_then (λ cut. option_map
    (λ ns. record { server = server; zone = zone; cut = cut; ns = ns })
    (name_at (codes "ns") value)) (name_at (codes "cut") value)) (name_at (codes "zone") value)) (name_at (codes "server") value)

-- the place of a rewrite that an object tells
abbrev pub place_in : Data → Option Place
place_in value =
    option_and_then (λ server. option_and_then (λ zone. option_map
    (λ owner. record { server = server; zone = zone; owner = owner })
    (name_at (codes "owner") value)) (name_at (codes "zone") value)) (name_at (codes "server") value)

-- the fault of a delegation whose kind has this word
abbrev pub cut_fault : List ℕ → Cut → Option Fault
cut_fault word cut =
    if pointwise nat_eq word (codes "lame-delegation") then Some (Lame cut)
    else (if pointwise nat_eq word (codes "delegation-differs") then Some (Differs cut)
    else (if pointwise nat_eq word (codes "missing-glue") then Some (NoGlue cut)
    else (if pointwise nat_eq word (codes "glue-differs") then Some (GlueDiffers cut)
    else (if pointwise nat_eq word (codes "cyclic-dependency") then Some (Cyclic cut)
    else (if pointwise nat_eq word (codes "no-address") then Some (NoAddress cut) else None)))))

-- the fault of a rewrite whose kind has this word
abbrev pub place_fault : List ℕ → Place → Option Fault
place_fault word place =
    if pointwise nat_eq word (codes "rewrite-limit") then Some (Limit place)
    else (if pointwise nat_eq word (codes "blackhole") then Some (Blackhole place)
    else (if pointwise nat_eq word (codes "overlong") then Some (Overlong place) else None))

-- that answers differ, if the word says so
abbrev pub answers_fault : List ℕ → Class → RrType → Option Fault
answers_fault word class rtype = if pointwise nat_eq word (codes "answers-differ") then Some (Answers class rtype) else None

-- the type at `type`
abbrev pub type_in : Data → Option RrType
type_in value = option_and_then type_of_word (text_at (codes "type") value)

-- that answers differ, of the class and the type that an object tells
abbrev pub answers_in : List ℕ → Data → Option Fault
answers_in word place = option_and_then (λ class. option_and_then (answers_fault word class) (type_in place)) (class_in place)

-- the fault of a kind with this word and of a place that an object tells
abbrev pub fault_at : List ℕ → Data → Option Fault
fault_at word place =
    option_or (option_and_then (cut_fault word) (cut_in place))
    (option_or (option_and_then (place_fault word) (place_in place)) (answers_in word place))

-- the fault of an entry: the word of its kind at `kind`, its place at `place`
abbrev pub fault_in : Data → Option Fault
fault_in entry = option_and_then (λ word. option_and_then (fault_at word) (get (codes "place") entry)) (text_at (codes "kind") entry)
