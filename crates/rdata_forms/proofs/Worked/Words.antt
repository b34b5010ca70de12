-- Words in which worked values are written.
use Prim.Native.String.{String as Text}
use Rattle.std.specs.Prelude.{ℕ, false, true, List, map, reverse, codes}
use Rattle.dns_data.specs.Name.{Labels}
use Rattle.master_lex.specs.declared.entry.Token.{Token}
use Rattle.rdata_forms.specs.Addresses.{split_on}

-- a token as it is written
abbrev pub token : Text → Token
token text = record { raw = codes text; quoted = false }

-- a token in quotes
abbrev pub in_quotes : Text → Token
in_quotes text = record { raw = codes text; quoted = true }

-- a token without quotes, of these octets
abbrev pub bare : List ℕ → Token
bare raw = record { raw = raw; quoted = false }

-- the tokens of a text with spaces between
abbrev pub tokens : Text → List Token
tokens text = map bare (split_on 32 (codes text))

-- the name of labels with dots between, the top one last
abbrev pub name : Text → Labels
name text = reverse (split_on 46 (codes text))
