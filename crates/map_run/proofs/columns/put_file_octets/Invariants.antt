-- So far the text has the octets so far at its end.
use Rattle.std.proofs.Common.{◌≡◌, ◌++◌, take}
use Rattle.map_run.specs.Columns.{file_text}
use Rattle.map_run.proofs.columns.put_file_octets.Given as goal

abbrev pub invariant-loop-octet : goal.invariant-loop-octet
invariant-loop-octet l = l.text ≡ l.fn.text ++ file_text (take l.octet-index l.octets)
