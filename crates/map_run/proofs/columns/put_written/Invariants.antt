-- What is written so far and what is written of the octets that are left make the whole.
use Rattle.std.proofs.Common.{◌≡◌, ◌++◌, drop}
use Rattle.map_run.specs.Columns.{as_written, written_from}
use Rattle.map_run.proofs.columns.put_written.Given as goal

abbrev pub invariant-loop-octet : goal.invariant-loop-octet
invariant-loop-octet l = l.text ++ written_from l.escaped (drop l.octet-index l.token) ≡ l.fn.text ++ as_written l.token
