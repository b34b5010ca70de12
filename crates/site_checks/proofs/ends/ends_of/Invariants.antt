use Rattle.std.proofs.Common.{◌≡◌, take}
use Rattle.std.specs.List.{AllByRecursion, flat_map}
use Rattle.dns_data.specs.RrType.{types}
use Rattle.site_checks.specs.AlikeEnds.{AreAlikeEnds}
use Rattle.site_checks.specs.PathEnds.{once_with}
use Rattle.site_checks.proofs.ends.ends_of.Given as goal

-- the ends of the types so far are there
abbrev pub invariant-loop-rtype : goal.invariant-loop-rtype
invariant-loop-rtype l = record {
  known : AllByRecursion (AreAlikeEnds l.graph) l.known;
  ends : l.ends ≡ flat_map (once_with l.graph) (take l.rtype-index types);
}
