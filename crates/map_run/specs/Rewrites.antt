-- How many rewrites a query may use.
use Rattle.std.specs.Prelude.{ℕ}

-- how many rewrites a query may use, that of a row as that of a target
abbrev pub most_rewrites : ℕ
most_rewrites = 12
