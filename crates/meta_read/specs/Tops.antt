-- The servers at which a query begins: `TopNameServers`, a list of strings, at least one, each a name. Equal names
-- count once, at their first place.
use Rattle.std.specs.Prelude.{ℕ, List, length, codes, Option, is_some, ok_or, if◌then◌else◌, ◌==◌, Result, Ok, Err}
use Rattle.std.specs.List.{list_all}
use Rattle.serde_json.specs.Data.{Data}
use Rattle.serde_json.specs.Find.{get, as_str}
use Rattle.dns_data.specs.Answers.{◌>>=◌}
use Rattle.dns_data.specs.Distinct.{distinct}
use Rattle.dns_data.specs.Name.{Labels, name_eq}
use Rattle.meta_read.specs.Members.{list_in}
use Rattle.meta_read.specs.Names.{each, name_in_row}
use Rattle.meta_read.specs.declared.fault.MetaFault.{MetaFault}
use Rattle.meta_read.specs.declared.fault.MetaFault.TheVariants.{Shape, NoTops}

-- the name that a value stands for
abbrev pub top_of : ℕ → Data → Result Labels MetaFault
top_of number value = do
  text ← ok_or (as_str value) (Shape 0)
  name_in_row 0 text

-- the names of a list of strings
abbrev pub tops_in : List Data → Result (List Labels) MetaFault
tops_in values =
    if list_all (λ value. is_some (as_str value)) values
    then (if length values == 0 then Err NoTops else each top_of 1 values)
    else Err (Shape 0)

-- the top servers that a member names, each once, or the first fault
abbrev pub tops_at : Option Data → Result (List Labels) MetaFault
tops_at member = do
  values ← ok_or (list_in member) (Shape 0)
  names ← tops_in values
  Ok (distinct name_eq names)

-- the top servers that the metadata name
abbrev pub tops_of : Data → Result (List Labels) MetaFault
tops_of value = tops_at (get (codes "TopNameServers") value)
