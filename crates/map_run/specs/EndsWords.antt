-- For the code alone, no public clause cites it: the words whose lines go by how the walks of names end.
use Rattle.std.specs.Prelude.{List}
use Rattle.dns_data.specs.Name.{Labels}
use Rattle.config_load.specs.declared.loaded.Loaded.{Loaded}
use Rattle.name_ends.specs.declared.ends.NameEnds.{NameEnds}
use Rattle.map_run.specs.Delegations.{delegations_of}
use Rattle.map_run.specs.Servers.{servers_of}
use Rattle.map_run.specs.Targets.{targets_of}
use Rattle.map_run.specs.declared.by_ends.EndsWord.{EndsWord}
use Rattle.map_run.specs.declared.by_ends.EndsWord.TheVariants as words
use Rattle.map_run.specs.declared.lines.Line.{Line}

-- the lines of a word, by how the walks of each name end
abbrev pub lines_by : EndsWord → Loaded → (Labels → NameEnds) → List Line
lines_by words.Targets all = targets_of all
lines_by words.Delegations all = delegations_of all
lines_by words.Servers all = servers_of all
