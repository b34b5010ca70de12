use Rattle.std.proofs.Common.{◌≡◌, ◌+◌, ◌≤◌, length}
use Rattle.part_names.specs.PartNames.{lines_of, names_in, with_lines}
use Rattle.part_names.proofs.reading.read_part_names.Given as goal

-- the lines that are left, counted on, give what all give
abbrev pub invariant-loop-names : goal.invariant-loop-names
invariant-loop-names l = record {
  lines : with_lines l.number l.names (lines_of l.rest) ≡ names_in l.octets;
  few : l.number + length l.rest ≤ length l.octets + 1;
}

abbrev pub decreases-loop-names : goal.decreases-loop-names
decreases-loop-names l = length l.rest
