use Rattle.std.proofs.Common.{◌≡◌, ◌++◌}
use Rattle.part_form.specs.Stated.{held_entries}
use Rattle.part_form.proofs.merging.all_entries.Given as goal

-- those of the parts so far, and those of what is left
abbrev pub invariant-loop-part : goal.invariant-loop-part
invariant-loop-part l = l.all ++ held_entries l.part-iterator ≡ held_entries l.fn.parts
