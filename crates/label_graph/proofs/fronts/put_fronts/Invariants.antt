use Rattle.std.proofs.Common.{◌<◌, ◌⊎◌, Contains}
use Rattle.std.specs.Prelude.{◌↔◌}
use Rattle.dns_data.specs.Name.{Labels}
use Rattle.label_graph.specs.Targets.{IsPrefixFrom}
use Rattle.label_graph.proofs.fronts.put_fronts.Given as goal

-- the fronts of fewer labels than are counted stand there
abbrev pub invariant-loop-count : goal.invariant-loop-count
invariant-loop-count l =
    (front : Labels) → Contains l.names.items front
    ↔ (Contains l.initial.names.items front ⊎ ((front_is : IsPrefixFrom l.from l.name front) × (front_is.0 < l.count)))
