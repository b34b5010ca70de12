use Rattle.std.proofs.Common.{◌≡◌, take}
use Rattle.config_load.specs.FileName.{shown_file}
use Rattle.config_load.proofs.file_name.shown_file.Given as goal

-- the text of the octets so far
abbrev pub invariant-loop-octet : goal.invariant-loop-octet
invariant-loop-octet l = l.text ≡ shown_file (take l.octet-index l.octet-items)
