use Rattle.std.proofs.Common.{◌≡◌, Some}
use Rattle.dns_data.specs.Name.{Labels}
use Rattle.net_model.specs.Nearest.{held_zone}
use Rattle.zone_lookup.proofs.CutTables.{IsRowUpTo}
use Rattle.zone_lookup.proofs.zone_cuts.cuts_in.Given as goal

-- the flags are there of the names so far
abbrev pub invariant-loop-place : goal.invariant-loop-place
invariant-loop-place l =
    (server : Labels) → held_zone l.hosts server l.tree.zone.origin ≡ Some l.tree.zone → IsRowUpTo l.hosts l.sets server l.tree l.place l.cuts.entries
