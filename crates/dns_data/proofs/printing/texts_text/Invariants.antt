-- So far the text is that of the first texts.
use Rattle.std.proofs.Common.{◌≡◌, codes, map, take}
use Rattle.std.specs.String.{string_bytes}
use Rattle.dns_data.specs.DataText.{separated, quoted}
use Rattle.dns_data.proofs.printing.texts_text.Given as goal

abbrev pub invariant-loop-i : goal.invariant-loop-i
invariant-loop-i l = string_bytes l.text ≡ separated (codes " ") (map quoted (take l.i l.texts))
