-- So far there are the words of the first rows.
use Rattle.std.proofs.Common.{◌≡◌, map, take}
use Rattle.map_run.specs.Reached.{reached_word}
use Rattle.map_run.proofs.reached.words_of.Given as goal

abbrev pub invariant-loop-one : goal.invariant-loop-one
invariant-loop-one l = l.words ≡ map reached_word (take l.one-index l.reached)
