use Rattle.std.proofs.Common.{◌≡◌, take}
use Rattle.config_load.proofs.zone_files.copied_names.Given as goal

-- copies of the names so far
abbrev pub invariant-loop-name : goal.invariant-loop-name
invariant-loop-name l = l.copies ≡ take l.name-index l.names
