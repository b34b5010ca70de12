-- What is read of the text of the report of a part.
use Rattle.std.specs.Prelude.{ℕ, List, [], ◌∷◌, map, codes, Option, Some, None, option_map, option_and_then}
use Rattle.std.specs.List.{flat_map}
use Rattle.std.specs.declared.cmp.Ordering.{Ordering}
use Rattle.dns_data.specs.Name.{Labels}
use Rattle.meta_read.specs.Members.{value_of, list_at}
use Rattle.net_model.specs.Class.{class_cmp}
use Rattle.net_model.specs.declared.class.Class.{Class}
use Rattle.net_model.specs.declared.fault.Fault.{Fault}
use Rattle.serde_json.specs.Data.{Data, null, string}
use Rattle.serde_json.specs.Find.{get, as_number, as_u64}
use Rattle.serde_json.specs.View.{view}
use Rattle.part_form.specs.declared.entries.StatedEntry.{StatedEntry}
use Rattle.part_form.specs.declared.stated.StatedPart.{StatedPart}
use Rattle.part_form.specs.Places.{name_of, class_in, fault_in}

-- an entry: its fault, its class, and its value in a report
pub record EntryStated : Type 0 where
  pub fault : Fault
  pub class : Class
  pub value : Data

-- the report of a part: its bounds, its counts, and its entries
pub record PartStated : Type 0 where
  pub from : Option Labels
  pub to : Option Labels
  pub classes : ℕ
  pub names : ℕ
  pub rewrites : ℕ
  pub entries : List EntryStated

-- an entry with this value and this class, if the value tells a fault
abbrev pub entry_with : Class → Data → Option EntryStated
entry_with class value = option_map (λ fault. record { fault = fault; class = class; value = value }) (fault_in value)

-- the entry that an object tells
abbrev pub entry_stated : Data → Option EntryStated
entry_stated value = option_and_then (λ entry. option_and_then (λ class. entry_with class entry) (class_in value)) (get (codes "entry") value)

-- the entries that objects tell, if each tells one
abbrev pub entries_stated : List Data → Option (List EntryStated)
entries_stated [] = Some []
entries_stated (value ∷ values) = option_and_then (λ entry. option_map (λ entries. entry ∷ entries) (entries_stated values)) (entry_stated value)

-- a bound: a name by its text, or none where null stands
abbrev pub bound_of : Data → Option (Option Labels)
bound_of null = Some None
bound_of (string text) = option_map (λ name. Some name) (name_of text)
bound_of other = None

-- the bound at a key
abbrev pub bound_at : List ℕ → Data → Option (Option Labels)
bound_at key value = option_and_then bound_of (get key value)

-- the whole number at a key, of 64 bits at most
abbrev pub number_at : List ℕ → Data → Option ℕ
number_at key value = option_and_then as_u64 (option_and_then as_number (get key value))

-- the report of a part with these bounds and entries
abbrev pub part_with : Data → Option Labels → Option Labels → List EntryStated → Option PartStated
part_with value from to entries =
    option_and_then (λ classes. option_and_then (λ names. option_map
    (λ rewrites. record { from = from; to = to; classes = classes; names = names; rewrites = rewrites; entries = entries })
    (number_at (codes "rewrites") value)) (number_at (codes "names") value)) (number_at (codes "classes") value)

-- the report that an object tells
abbrev pub part_stated : Data → Option PartStated
part_stated value =
    option_and_then (λ from. option_and_then (λ to. option_and_then (part_with value from to)
    (option_and_then entries_stated (list_at (codes "faults") value))) (bound_at (codes "to") value)) (bound_at (codes "from") value)

-- the report that a file's octets are
abbrev pub part_in : List ℕ → Option PartStated
part_in octets = option_and_then part_stated (value_of octets)

-- ---- as the code holds it

-- the fault of an entry
abbrev pub held_fault : StatedEntry → Fault
held_fault entry = entry.fault

-- how entries of one fault stand to each other: by their classes
abbrev pub held_order : StatedEntry → StatedEntry → Ordering
held_order a b = class_cmp a.class b.class

-- all entries of the reports
abbrev pub held_entries : List StatedPart → List StatedEntry
held_entries parts = flat_map (λ part. part.entries) parts

-- what an entry tells
abbrev pub entry_of : StatedEntry → EntryStated
entry_of entry = record { fault = entry.fault; class = entry.class; value = view entry.value }

-- what the report of a part tells
abbrev pub part_of : StatedPart → PartStated
part_of part =
    record {
      from = part.from;
      to = part.to;
      classes = part.classes;
      names = part.names;
      rewrites = part.rewrites;
      entries = map entry_of part.entries;
    }
