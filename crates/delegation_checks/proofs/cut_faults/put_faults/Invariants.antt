use Rattle.std.proofs.Common.{◌≡◌, ◌++◌}
use Rattle.graph_form.specs.Branches.{with_type}
use Rattle.delegation_checks.proofs.cut_faults.put_faults.Given as goal

-- with those left they are all
abbrev pub invariant-loop-fault : goal.invariant-loop-fault
invariant-loop-fault l = l.seen ++ with_type l.fn.rtype l.fault-iterator ≡ l.fn.seen ++ with_type l.fn.rtype l.fn.faults
