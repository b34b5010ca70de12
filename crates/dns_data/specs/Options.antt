-- Steps that may give nothing, one after another: the first that gives nothing ends them.
use Rattle.std.specs.Prelude.{Option, option_and_then}

-- a step that may give nothing, and the next
infixl 10 ◌>>=◌
abbrev pub ◌>>=◌ : {A B : Type 0} → Option A → (A → Option B) → Option B
o >>= f = option_and_then f o
