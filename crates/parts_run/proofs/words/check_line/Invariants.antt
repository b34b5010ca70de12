use Rattle.std.proofs.Common.{◌≡◌, ◌∷◌, List, ℕ, Bor, codes, map, take}
use Rattle.parts_run.proofs.words.check_line.Given as goal

-- the words so far
abbrev pub invariant-loop-word : goal.invariant-loop-word
invariant-loop-word l =
    map (λ (word : Bor (List ℕ)). word.now) l.line.items ≡ codes "check" ∷ l.meta ∷ map (λ (word : Bor (List ℕ)). word.now) (take l.word-index l.options)
