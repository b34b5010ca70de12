-- So far there are copies of the first ones.
use Rattle.std.proofs.Common.{◌≡◌, take}
use Rattle.site_checks.proofs.line.copied_lines.Given as goal

abbrev pub invariant-loop-line : goal.invariant-loop-line
invariant-loop-line l = l.copy ≡ take l.line-index l.lines
