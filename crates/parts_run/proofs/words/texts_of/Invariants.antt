use Rattle.std.proofs.Common.{◌≡◌, ◌++◌, drop, map}
use Rattle.parts_run.proofs.words.texts_of.Given as goal

-- the texts so far, with the words that are left
abbrev pub invariant-loop-word : goal.invariant-loop-word
invariant-loop-word l = l.texts ++ map (λ word. word.now) (drop l.word-index l.words) ≡ map (λ word. word.now) l.words
