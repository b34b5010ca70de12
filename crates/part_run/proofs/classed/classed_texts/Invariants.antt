use Rattle.std.proofs.Common.{◌≡◌, ◌++◌, List}
use Rattle.std.specs.List.{AllZip}
use Rattle.part_run.specs.KeptEntry.{IsClassedText}
use Rattle.part_run.specs.declared.entry.KeptEntry.{KeptEntry}
use Rattle.part_run.proofs.classed.classed_texts.Given as goal

-- what is kept so far has these texts, and the rest is left
abbrev pub invariant-loop-one : goal.invariant-loop-one
invariant-loop-one l = (passed : List KeptEntry) × (passed ++ l.one-iterator ≡ l.fn.kept) × AllZip (IsClassedText l.graph) passed l.texts
