-- Sums of octets, one octet after another.
use Rattle.std.proofs.Common.{◌≡◌, ℕ, ◌+◌, ◌<◌, Bool, not, List, length, get_or, drop, ap}
use Rattle.std.proofs.lemmas.List.{drop_more}
use Rattle.key_chain.specs.Keys.{octet_sum, weighted}

-- the sum of the octets from a place on, by the one there
pub sum_at : (upper : Bool) (octets : List ℕ) (i : ℕ) → i < length octets
    → octet_sum upper (drop i octets) ≡ weighted upper (get_or octets i 0) + octet_sum (not upper) (drop (i + 1) octets)
unfolding octet_sum
sum_at upper octets i within = ap (octet_sum upper) (drop_more octets i 0 within)
