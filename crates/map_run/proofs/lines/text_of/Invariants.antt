-- So far there are the texts of the first lines.
use Rattle.std.proofs.Common.{◌≡◌, take}
use Rattle.map_run.specs.Lines.{lines_text}
use Rattle.map_run.proofs.lines.text_of.Given as goal

abbrev pub invariant-loop-line : goal.invariant-loop-line
invariant-loop-line l = l.text ≡ lines_text (take l.line-index l.lines)
