use Rattle.std.proofs.Common.{◌≡◌, length}
use Rattle.call_tests.proofs.tests.addresses.learnt_by_graphs.Given as goal

-- there are as many as servers passed
abbrev pub invariant-loop-server : goal.invariant-loop-server
invariant-loop-server l = length l.addresses ≡ l.server-index
