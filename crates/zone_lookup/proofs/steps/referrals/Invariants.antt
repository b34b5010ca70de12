use Rattle.std.proofs.Common.{◌≡◌, map, take}
use Rattle.net_model.specs.Step.{referred}
use Rattle.zone_lookup.specs.Steps.{branch_of}
use Rattle.zone_tree.specs.Tree.{name_of}
use Rattle.zone_lookup.proofs.steps.referrals.Given as goal

-- the steps to the name servers so far
abbrev pub invariant-loop-ns : goal.invariant-loop-ns
invariant-loop-ns l =
    map branch_of l.steps.items
    ≡ map (λ ns. referred l.walker l.state (record { server = l.state.server; zone = l.tree.zone.origin; cut = name_of l.tree l.cut; ns = ns.now })) (take l.ns-index l.names)
