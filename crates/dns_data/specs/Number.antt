-- Numbers in decimal digits (RFC 1035 section 5.1).
use Rattle.std.specs.Prelude.{ℕ, Bool, ◌&&◌, nat_le, List, length, Option, Some, None, if◌then◌else◌}
use Rattle.std.specs.List.{list_all}
use Rattle.dns_data.specs.Octet.{is_digit, digits_after}

-- at least one octet, and digits alone
abbrev pub is_digits : List ℕ → Bool
is_digits text = nat_le 1 (length text) && list_all is_digit text

-- the number that is written with at most so many digits, if it is at most this
abbrev pub number_up_to : ℕ → ℕ → List ℕ → Option ℕ
number_up_to digits most text =
    if is_digits text && nat_le (length text) digits && nat_le (digits_after 0 text) most
    then Some (digits_after 0 text)
    else None
