-- For the code alone, no public clause cites it: octets as a number.
use Rattle.std.specs.Prelude.{ℕ, ◌+◌, ◌*◌, ◌^◌, List, [], ◌∷◌, length}

-- the number that octets write, the most significant first
abbrev pub written_number : List ℕ → ℕ
written_number [] = 0
written_number (octet ∷ octets) = octet * 2 ^ (8 * length octets) + written_number octets
