use Rattle.std.proofs.Common.{◌≡◌, Some, map, take}
use Rattle.dns_data.specs.Name.{Labels}
use Rattle.net_model.specs.Nearest.{held_zone}
use Rattle.zone_tree.specs.Tree.{name_of}
use Rattle.zone_lookup.specs.CutFlags.{flags_of}
use Rattle.zone_lookup.specs.CutTable.{cut_to}
use Rattle.zone_lookup.proofs.zone_cuts.flags_at.Given as goal

-- what the referrals show to the name servers so far
abbrev pub invariant-loop-ns : goal.invariant-loop-ns
invariant-loop-ns l = (server : Labels) → held_zone l.hosts server l.tree.zone.origin ≡ Some l.tree.zone
    → l.flags ≡ map (flags_of l.hosts l.sets) (map (cut_to server l.tree.zone (name_of l.tree l.cut)) (map (λ ns. ns.now) (take l.ns-index l.ns-items)))
