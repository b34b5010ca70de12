-- So far the text is that of the first groups.
use Rattle.std.proofs.Common.{◌≡◌, ◌*◌, codes, take}
use Rattle.std.specs.String.{string_bytes}
use Rattle.dns_data.specs.DataText.{separated, groups}
use Rattle.dns_data.proofs.printing.groups_text.Given as goal

abbrev pub invariant-loop-place : goal.invariant-loop-place
invariant-loop-place l = string_bytes l.text ≡ separated (codes ":") (groups (take (2 * l.place) l.address))
