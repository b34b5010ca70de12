-- So far there are the first words that hold.
use Rattle.std.proofs.Common.{◌≡◌, take}
use Rattle.std.specs.List.{flat_map}
use Rattle.map_run.specs.Targets.{word_if}
use Rattle.map_run.proofs.targets.words_if.Given as goal

abbrev pub invariant-loop-one : goal.invariant-loop-one
invariant-loop-one l = l.words ≡ flat_map (λ one. word_if one.0 one.1.now) (take l.one-index l.kinds)
