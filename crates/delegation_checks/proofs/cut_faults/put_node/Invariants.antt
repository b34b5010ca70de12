use Rattle.std.proofs.Common.{◌≡◌, ◌++◌, take}
use Rattle.std.specs.List.{flat_map}
use Rattle.net_model.specs.declared.deps.Deps.{Deps}
use Rattle.zone_lookup.specs.CutTable.{IsTableOf}
use Rattle.delegation_checks.specs.Referrals.{NodeRefers}
use Rattle.delegation_checks.proofs.FlaggedBranches.{arm_seen}
use Rattle.delegation_checks.proofs.cut_faults.put_node.Given as goal

-- those of the arms so far
abbrev pub invariant-loop-arm : goal.invariant-loop-arm
invariant-loop-arm l =
    (deps : Deps) → IsTableOf l.hosts deps l.table → NodeRefers l.hosts l.node
    → l.seen ≡ l.fn.seen ++ flat_map (arm_seen l.hosts deps l.node.state) (take l.arm-index l.arm-items)
