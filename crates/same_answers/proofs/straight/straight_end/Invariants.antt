use Rattle.std.proofs.Common.{◌≡◌, None, not, take}
use Rattle.std.specs.List.{find}
use Rattle.dns_data.specs.RrType.{types}
use Rattle.straight_walks.specs.Ends.{ends_alike}
use Rattle.same_answers.proofs.straight.straight_end.Given as goal

-- with none of the types so far
abbrev pub invariant-loop-rtype : goal.invariant-loop-rtype
invariant-loop-rtype l = find (λ rtype. not (ends_alike l.first l.second rtype)) (take l.rtype-index types) ≡ None
