use Rattle.std.proofs.Common.{take}
use Rattle.std.specs.Prelude.{Contains}
use Rattle.dns_data.specs.Name.{Labels}
use Rattle.straight_walks.specs.Regions.{HasOrigins}
use Rattle.straight_walks.proofs.OriginSets.{names_of}
use Rattle.straight_walks.proofs.origins.put_origins.Given as goal

-- the origins of the zones so far are there, and those before
abbrev pub invariant-loop-zone : goal.invariant-loop-zone
invariant-loop-zone l = record {
  all : HasOrigins (take l.zone-index l.zones) (names_of l.origins.keys);
  kept : (name : Labels) → Contains (names_of l.fn.origins.keys) name → Contains (names_of l.origins.keys) name;
}
