use Rattle.std.proofs.Common.{◌≡◌, ℕ, ◌<◌, length, Some, slice_get}
use Rattle.verdict_book.proofs.order.ranks_of.Given as goal

-- the ranks of the places so far
abbrev pub invariant-loop-rank : goal.invariant-loop-rank
invariant-loop-rank l = record {
  many : length l.ranks.items ≡ length l.places;
  each : (k place : ℕ) → k < l.rank → slice_get l.places k ≡ Some place → slice_get l.ranks.items place ≡ Some k;
}
