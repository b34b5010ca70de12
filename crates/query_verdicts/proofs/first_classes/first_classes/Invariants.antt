use Rattle.std.proofs.Common.{◌≡◌, ◌++◌, List}
use Rattle.query_verdicts.specs.Rows.{KeepsFirsts, found_of}
use Rattle.query_verdicts.specs.declared.first_classes.ClassFault.{ClassFault}
use Rattle.query_verdicts.proofs.first_classes.first_classes.Given as goal

-- of the faults of the names so far the first ones are kept, and others are left
abbrev pub invariant-loop-one : goal.invariant-loop-one
invariant-loop-one g l = (done : List ClassFault) × (done ++ found_of l.one-iterator ≡ found_of l.fn.filed) × KeepsFirsts done l.found
