-- So far the list has copies of the first ones.
use Rattle.std.proofs.Common.{◌≡◌, take}
use Rattle.dns_data.proofs.list.List+Octets.copy.Given as goal

abbrev pub invariant-loop-octets : goal.invariant-loop-octets
invariant-loop-octets l = l.list ≡ take l.octets-index l.octets-items
