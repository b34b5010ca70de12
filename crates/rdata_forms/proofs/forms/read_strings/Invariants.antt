use Rattle.std.proofs.Common.{◌≡◌, drop}
use Rattle.rdata_forms.specs.Forms.{written, strings_of}
use Rattle.rdata_forms.proofs.Strings.{behind}
use Rattle.rdata_forms.proofs.forms.read_strings.Given as goal

-- the strings so far and those of the tokens that are left make the whole
abbrev pub invariant-loop-token : goal.invariant-loop-token
invariant-loop-token l = behind l.strings.items (strings_of (written (drop l.token-index l.tokens))) ≡ strings_of (written l.tokens)
