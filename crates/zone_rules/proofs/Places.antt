-- Where the bucket for a number stands.
use Rattle.std.proofs.Common.{ℕ, ◌*◌, ◌/◌, ◌^◌, ◌<◌, lit<, arith}
use Rattle.std.proofs.lemmas.Nat.{div_below, mul-lt}
use Rattle.std.proofs.Math.Nat.{mul-lt-mul_of_pos_right}

-- the upper half of a number of 64 bits
high_half : (number : ℕ) → number < 2 ^ 64 → number / 2 ^ 32 < 2 ^ 32
high_half number fits = div_below number (2 ^ 32) (2 ^ 32) (lit< tt) fits

-- the upper half times how many buckets there are fits into 64 bits
pub scaled_fits : (number len : ℕ) → number < 2 ^ 64 → len < 2 ^ 32 → number / 2 ^ 32 * len < 2 ^ 64
scaled_fits number len fits few = mul-lt (number / 2 ^ 32) len (2 ^ 32) (2 ^ 32) (high_half number fits) few

-- the place is that of a bucket
pub place_within : (number len : ℕ) → number < 2 ^ 64 → 0 < len → number / 2 ^ 32 * len / 2 ^ 32 < len
place_within number len fits some =
    let less : number / 2 ^ 32 * len < 2 ^ 32 * len = mul-lt-mul_of_pos_right (high_half number fits) some in
    div_below (number / 2 ^ 32 * len) (2 ^ 32) len (lit< tt) (omega (arith, less))
