use Rattle.std.proofs.Common.{◌≡◌, take}
use Rattle.plain_resolver.proofs.begun.copied_hops.Given as goal

-- copies of the hops so far
abbrev pub invariant-loop-hop : goal.invariant-loop-hop
invariant-loop-hop l = l.copies ≡ take l.hop-index l.hops
