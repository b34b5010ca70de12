-- The digits of tokens together.
use Rattle.std.proofs.Common.{ℕ, Bool, ◌&&◌, List, length}
use Rattle.std.specs.Prelude.{◌==◌}
use Rattle.std.specs.List.{list_all, concat}
use Rattle.master_lex.specs.declared.entry.Token.{Token}
use Rattle.rdata_forms.specs.Addresses.{is_hex}
use Rattle.rdata_forms.specs.Forms.{written}

-- the tokens have so many hexadecimal digits together
abbrev pub has_digits : List Token → ℕ → Bool
has_digits tokens count = list_all is_hex (concat (written tokens)) && (length (concat (written tokens)) == count)
