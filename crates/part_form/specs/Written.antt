-- What is read of what was written: reports of parts whose names are names, and whose counts take 64 bits.
use Rattle.std.specs.Prelude.{◌<◌, ◌^◌, map, Option, Some, None}
use Rattle.std.specs.List.{AllByRecursion}
use Rattle.std.specs.Str.{IsUtf8}
use Rattle.dns_data.specs.Name.{Labels, IsName}
use Rattle.net_model.specs.declared.fault.Fault.{Fault}
use Rattle.net_model.specs.declared.fault.Fault.TheVariants.{Lame, Differs, NoGlue, GlueDiffers, Cyclic, Limit, Blackhole, Answers, Overlong, NoAddress}
use Rattle.net_model.specs.declared.place.Cut.{Cut}
use Rattle.net_model.specs.declared.place.Place.{Place}
use Rattle.net_model.specs.Class.{class_name}
use Rattle.report_json.specs.Report.{entry_value}
use Rattle.part_form.specs.PartText.{ClassedEntry, WrittenPart, part_text}
use Rattle.part_form.specs.Stated.{EntryStated, PartStated}

-- the four names of a name server of a delegation are names
pub record IsNamedCut (cut : Cut) : Type 0 where
  pub server : IsName cut.server
  pub zone : IsName cut.zone
  pub cut_is : IsName cut.cut
  pub ns : IsName cut.ns

-- the three names of the place of a rewrite are names
pub record IsNamedPlace (place : Place) : Type 0 where
  pub server : IsName place.server
  pub zone : IsName place.zone
  pub owner : IsName place.owner

-- the names of a fault's place are names
abbrev pub IsNamedFault : Fault → Type 0
IsNamedFault (Lame cut) = IsNamedCut cut
IsNamedFault (Differs cut) = IsNamedCut cut
IsNamedFault (NoGlue cut) = IsNamedCut cut
IsNamedFault (GlueDiffers cut) = IsNamedCut cut
IsNamedFault (Cyclic cut) = IsNamedCut cut
IsNamedFault (Limit place) = IsNamedPlace place
IsNamedFault (Blackhole place) = IsNamedPlace place
IsNamedFault (Answers class rtype) = IsName (class_name class)
IsNamedFault (Overlong place) = IsNamedPlace place
IsNamedFault (NoAddress cut) = IsNamedCut cut

-- an entry with names
pub record IsNamedEntry (classed : ClassedEntry) : Type 0 where
  pub class : IsName (class_name classed.class)
  pub fault : IsNamedFault classed.entry.seen.fault

-- a bound is a name, if there is one
abbrev pub IsNamedBound : Option Labels → Type 0
IsNamedBound None = Unit {0}
IsNamedBound (Some name) = IsName name

-- a report of a part that can be written and read back: its names are names, 64 bits count what it has, and its text is
-- UTF-8
pub record IsReadable (part : WrittenPart) : Type 0 where
  pub from : IsNamedBound part.from
  pub to : IsNamedBound part.to
  pub classes : part.classes < 2 ^ 64
  pub names : part.names < 2 ^ 64
  pub rewrites : part.rewrites < 2 ^ 64
  pub entries : AllByRecursion IsNamedEntry part.entries
  pub utf8 : IsUtf8 (part_text part)

-- what is read of an entry
abbrev pub entry_read : ClassedEntry → EntryStated
entry_read classed = record { fault = classed.entry.seen.fault; class = classed.class; value = entry_value classed.entry }

-- what is read of the report of a part
abbrev pub part_read : WrittenPart → PartStated
part_read part =
    record {
      from = part.from;
      to = part.to;
      classes = part.classes;
      names = part.names;
      rewrites = part.rewrites;
      entries = map entry_read part.entries;
    }
