-- What the names of a part hold.
use Rattle.std.specs.Prelude.{List}
use Rattle.dns_data.specs.Name.{Labels}
use Rattle.part_laws.specs.Part.{with_prefixes}
use Rattle.part_names.specs.declared.names.PartNames.{PartNames}

-- the names that a part holds: the root, and all prefixes of those that are told as held
abbrev pub held_by : PartNames → List Labels
held_by names = with_prefixes names.held
