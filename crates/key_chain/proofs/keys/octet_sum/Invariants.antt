-- The sum so far with that of the octets left is the sum of all, and each octet added at most 65,280.
use Rattle.std.proofs.Common.{◌≡◌, ◌+◌, ◌*◌, ◌≤◌, true, drop}
use Rattle.key_chain.specs.Keys.{octet_sum}
use Rattle.key_chain.proofs.keys.octet_sum.Given as goal

abbrev pub invariant-loop-octet : goal.invariant-loop-octet
invariant-loop-octet l = record {
  sum : l.sum + octet_sum l.upper (drop l.octet-index l.octets) ≡ octet_sum true l.octets;
  within : l.sum ≤ l.octet-index * 65280;
}
