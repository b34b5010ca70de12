-- What a caller needs that reads or writes in a loop.
use Rattle.std.proofs.Common.{ℕ, List, arith}
use Rattle.io_edges.specs.Counts.{NoneFell}

-- if no count fell over one step, and none over the next, none fell over both
pub NoneFell-then : (first between last : List ℕ → ℕ) → NoneFell first between → NoneFell between last → NoneFell first last
NoneFell-then first between last a b name = omega (arith, a name, b name)
