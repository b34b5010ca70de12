use Rattle.std.proofs.Common.{◌≡◌, ◌++◌}
use Rattle.part_form.proofs.merging.put_all.Given as goal

-- those put so far, and those that are left
abbrev pub invariant-loop-entry : goal.invariant-loop-entry
invariant-loop-entry l = l.all ++ l.entry-iterator ≡ l.initial.all ++ l.initial.entry-iterator
