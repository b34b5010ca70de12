use Rattle.std.proofs.Common.{drop}
use Rattle.rdata_forms.proofs.Seconds.{IsUnderWay}
use Rattle.rdata_forms.proofs.times.read_ttl.Given as goal

-- the seconds so far, the digits under way and what is left make the time
abbrev pub invariant-loop-octet : goal.invariant-loop-octet
invariant-loop-octet l = IsUnderWay l.seconds l.grouped l.value (drop l.octet-index l.text) l.text
