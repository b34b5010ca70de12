use Rattle.std.proofs.Common.{◌≡◌, take}
use Rattle.dns_data.proofs.rdata.copied_data.Given as goal

-- copies of the data so far
abbrev pub invariant-loop-rdata : goal.invariant-loop-rdata
invariant-loop-rdata l = l.copies ≡ take l.rdata-index l.items
