-- So far the list has copies of the first ones.
use Rattle.std.proofs.Common.{◌≡◌, take}
use Rattle.dns_data.proofs.list.List+Name.copy.Given as goal

abbrev pub invariant-loop-name : goal.invariant-loop-name
invariant-loop-name l = l.list ≡ take l.name-index l.name-items
