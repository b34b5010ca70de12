-- Serial numbers of zones (RFC 1982 section 3.2).
use Rattle.std.specs.Prelude.{ℕ, ◌-◌, ◌^◌, Bool, ◌&&◌, ◌||◌, nat_lt}

-- the first serial is less than the second; neither is less where they are 2 ^ 31 apart
abbrev pub is_less : ℕ → ℕ → Bool
is_less a b = (nat_lt a b && nat_lt (b - a) (2 ^ 31)) || (nat_lt b a && nat_lt (2 ^ 31) (a - b))
