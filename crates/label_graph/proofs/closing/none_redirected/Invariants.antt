use Rattle.std.proofs.Common.{◌≡◌, ℕ, [], take, get_or, All}
use Rattle.label_graph.proofs.closing.none_redirected.Given as goal

-- none of those passed is redirected
abbrev pub invariant-loop-place : goal.invariant-loop-place
invariant-loop-place l = All (λ (place : ℕ). get_or l.reads place [] ≡ []) (take l.place-index l.places)
