use Rattle.std.proofs.Common.{◌≡◌, take}
use Rattle.std.specs.List.{AllByRecursion}
use Rattle.dns_data.specs.RrType.{types}
use Rattle.straight_walks.specs.Answers.{sorted_data}
use Rattle.zone_tree.specs.Tree.{name_of}
use Rattle.straight_walks.proofs.answers.same_data.Given as goal

-- of the types so far both names own the same data
abbrev pub invariant-loop-rtype : goal.invariant-loop-rtype
invariant-loop-rtype l =
    AllByRecursion (λ rtype. sorted_data l.one.zone (name_of l.one l.owner) rtype ≡ sorted_data l.other.zone (name_of l.other l.others) rtype) (take l.rtype-index types)
