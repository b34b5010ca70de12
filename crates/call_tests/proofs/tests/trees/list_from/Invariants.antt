-- as many numbers are listed as places passed
use Rattle.std.proofs.Common.{◌≡◌}
use Rattle.std.specs.List.{range_with_len}
use Rattle.call_tests.proofs.tests.trees.list_from.Given as goal

abbrev pub invariant-loop-place : goal.invariant-loop-place
invariant-loop-place l = l.list ≡ range_with_len l.first l.place
