use Rattle.std.proofs.Common.{◌≡◌, ◌++◌, drop}
use Rattle.dns_data.specs.First.{chosen}
use Rattle.part_checks.proofs.left.chosen.Given as goal

-- the records that were chosen, and then those of the others
abbrev pub invariant-loop-is_chosen : goal.invariant-loop-is_chosen
invariant-loop-is_chosen l =
    chosen l.initial.others l.are_chosen ≡ l.left.items ++ chosen l.others (drop l.is_chosen-index l.are_chosen)
