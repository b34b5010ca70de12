-- Hexadecimal digits one after another.
use Rattle.std.proofs.Common.{◌≡◌, ℕ, ◌+◌, ◌*◌, ◌<◌, ◌≤◌, ◌^◌, true, List, cond, Option, Some, None, ap, ◌∙◌, arith, add-one, lit<}
use Rattle.std.proofs.Math.Nat.{pow-succ', pow-le-pow_right}
use Rattle.std.proofs.lemmas.Bool.Decides.{nat_tests}
use Rattle.std.specs.List.{list_all}
use Rattle.rdata_forms.specs.Addresses.{is_hex, hex_digit, hex_after}

-- a digit is below sixteen
pub hex_digit-lt : (octet : ℕ) → is_hex octet ≡ true → hex_digit octet < 16
hex_digit-lt octet h = grind (arith, nat_tests)

-- the value of digits behind others of this value
abbrev pub hex_from : ℕ → List ℕ → Option ℕ
hex_from value text = cond (list_all is_hex text) (Some (hex_after value text)) None

-- a number with one hexadecimal digit more is below sixteen times the bound
pub hex_fits : (value digit i : ℕ) → value < 16 ^ i → digit < 16 → value * 16 + digit < 16 ^ (i + 1)
hex_fits value digit i lt small =
    let next : 16 ^ (i + 1) ≡ 16 * 16 ^ i = ap (λ n. 16 ^ n) (add-one i) ∙ pow-succ' 16 i in omega arith

-- four digits stay below 65,536
pub four_digits : (i : ℕ) → i ≤ 4 → 16 ^ i ≤ 65536
four_digits i le = pow-le-pow_right (lit< tt) le
