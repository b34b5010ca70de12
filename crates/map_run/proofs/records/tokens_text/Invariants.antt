-- So far the text is that of the first tokens.
use Rattle.std.proofs.Common.{◌≡◌, codes, map, take}
use Rattle.dns_data.specs.DataText.{separated}
use Rattle.map_run.specs.Columns.{as_written}
use Rattle.map_run.proofs.records.tokens_text.Given as goal

abbrev pub invariant-loop-i : goal.invariant-loop-i
invariant-loop-i l = l.text ≡ separated (codes " ") (map as_written (take l.i l.tokens))
