use Rattle.std.proofs.Common.{◌≡◌, None, not, take}
use Rattle.std.specs.List.{find}
use Rattle.dns_data.specs.RrType.{types}
use Rattle.same_answers.specs.Ends.{graphs_alike}
use Rattle.same_answers.proofs.graph_found.first_apart.Given as goal

-- with none of the types so far
abbrev pub invariant-loop-rtype : goal.invariant-loop-rtype
invariant-loop-rtype l = find (λ rtype. not (graphs_alike l.first l.second rtype)) (take l.rtype-index types) ≡ None
