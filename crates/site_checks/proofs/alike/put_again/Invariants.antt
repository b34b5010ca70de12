use Rattle.std.proofs.Common.{◌≡◌, ◌++◌, map, take}
use Rattle.site_checks.specs.AlikeEnds.{retyped}
use Rattle.site_checks.proofs.alike.put_again.Given as goal

-- the ends so far are there with the type
abbrev pub invariant-loop-end : goal.invariant-loop-end
invariant-loop-end l = l.ends ≡ l.fn.ends ++ map (retyped l.rtype) (take l.end-index l.found)
