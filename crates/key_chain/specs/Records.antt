-- Signers and keys that data of records hold: DS records have the type 43, DNSKEY records 48.
use Rattle.std.specs.Prelude.{ℕ, Bool, false, ◌&&◌, ◌||◌, List, Option, None, is_none, option_and_then, ◌==◌}
use Rattle.std.specs.Option.{option_map_or}
use Rattle.dns_data.specs.declared.rdata.Rdata.{Rdata}
use Rattle.dns_data.specs.declared.rdata.Rdata.TheVariants.{Other}
use Rattle.kept_data.specs.Numbers.{kept_number}
use Rattle.kept_data.specs.Octets.{kept_octets}
use Rattle.key_chain.specs.Keys.{key_of, signer_of}
use Rattle.key_chain.specs.declared.keys.Key.{Key}
use Rattle.key_chain.specs.declared.keys.Signer.{Signer}

-- the word is that of the type with this number
abbrev pub is_word_of : ℕ → List ℕ → Bool
is_word_of number word = option_map_or (λ own. own == number) (kept_number word) false

-- the data are of the type with this number, which are kept as they were written
abbrev pub is_numbered : ℕ → Rdata → Bool
is_numbered number (Other word tokens) = is_word_of number word
is_numbered number rdata = false

-- the octets of kept data of a type with this number
abbrev pub octets_in : ℕ → Rdata → Option (List ℕ)
octets_in number (Other word tokens) = kept_octets number tokens
octets_in number rdata = None

-- the record is a DS record
abbrev pub is_ds : Rdata → Bool
is_ds rdata = is_numbered 43 rdata

-- the record is a DNSKEY record
abbrev pub is_dnskey : Rdata → Bool
is_dnskey rdata = is_numbered 48 rdata

-- the signer that a DS record's data hold, if they have their form
abbrev pub signer_in : Rdata → Option Signer
signer_in rdata = option_and_then signer_of (octets_in 43 rdata)

-- the key that a DNSKEY record's data hold, if they have their form
abbrev pub key_in : Rdata → Option Key
key_in rdata = option_and_then key_of (octets_in 48 rdata)

-- data of a DS or DNSKEY record don't have their form
abbrev pub is_malformed : Rdata → Bool
is_malformed rdata = (is_ds rdata && is_none (signer_in rdata)) || (is_dnskey rdata && is_none (key_in rdata))
