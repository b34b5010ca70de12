use Rattle.std.proofs.Common.{◌≡◌, take}
use Rattle.std.specs.List.{AllByRecursion}
use Rattle.straight_walks.specs.Regions.{IsRegion, region_origins}
use Rattle.straight_walks.proofs.OriginSets.{names_of}
use Rattle.straight_walks.proofs.regions.regions_of.Given as goal

-- the regions of the origins so far
abbrev pub invariant-loop-origin : goal.invariant-loop-origin
invariant-loop-origin l = record {
  origins : region_origins l.regions.items ≡ names_of (take l.origin-index l.origins);
  each : AllByRecursion (IsRegion l.hosts l.sets) l.regions.items;
}
