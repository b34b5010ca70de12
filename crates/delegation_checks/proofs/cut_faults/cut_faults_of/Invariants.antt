use Rattle.std.proofs.Common.{◌≡◌, take}
use Rattle.std.specs.List.{flat_map}
use Rattle.net_model.specs.declared.deps.Deps.{Deps}
use Rattle.zone_lookup.specs.CutTable.{IsTableOf}
use Rattle.delegation_checks.specs.Referrals.{GraphRefers}
use Rattle.delegation_checks.proofs.FlaggedBranches.{node_seen}
use Rattle.delegation_checks.proofs.cut_faults.cut_faults_of.Given as goal

-- those of the nodes so far
abbrev pub invariant-loop-number : goal.invariant-loop-number
invariant-loop-number l =
    (deps : Deps) → IsTableOf l.hosts deps l.table → GraphRefers l.hosts l.graph
    → l.seen ≡ flat_map (node_seen l.hosts deps) (take l.number l.graph.nodes)
