use Rattle.std.proofs.Common.{◌≡◌, ℕ, ◌<◌, get_or}
use Rattle.graph_form.specs.declared.report.Seen.{Seen}
use Rattle.query_verdicts.proofs.equal.are_same.Given as goal

-- the faults so far are the same
abbrev pub invariant-loop-place : goal.invariant-loop-place
invariant-loop-place l = (i : ℕ) (d : Seen) → i < l.place → get_or l.fn.a i d ≡ get_or l.fn.b i d
