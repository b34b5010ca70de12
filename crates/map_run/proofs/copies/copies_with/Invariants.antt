-- So far there are the lines of the first rows, and what is compared of the first of them with each origin is known.
use Rattle.std.proofs.Common.{◌≡◌, [], take}
use Rattle.map_run.specs.Copies.{copy_lines}
use Rattle.map_run.specs.FirstCopies.{KnowsFirsts}
use Rattle.map_run.specs.Lines.{by_earlier}
use Rattle.map_run.proofs.copies.copies_with.Given as goal

abbrev pub invariant-loop-i : goal.invariant-loop-i
invariant-loop-i l = record {
  lines : l.lines ≡ by_earlier (copy_lines l.zones) [] (take l.i l.rows);
  firsts : KnowsFirsts l.zones (take l.i l.rows) l.firsts;
}
