use Rattle.std.proofs.Common.{◌∙◌, ℕ, List, Bor, map, ap, refl}
use Rattle.std.proofs.KnownBytes.{Appends-nil}
use Rattle.groot_line.specs.declared.program.Program.TheVariants.{GrootLarge}
use Rattle.groot_run.proofs.SameWords.{of_same}
use Rattle.run_endings.proofs.Written.{ran_out}
use Rattle.groot_large.proofs.run.Goals as goal

-- the words that the top call is given are those that were handed over
pub returns-in-Ok : goal.returns-in-Ok
returns-in-Ok g c =
    of_same GrootLarge _ _ _ _ c.run_program.result _ _ (ap (map (λ (word : Bor (List ℕ)). word.now)) c.as_slice-words.ensures.value ∙ c.in-Ok.ensures) c.run_program.ensures.run

-- where memory runs out for the words, nothing else is done
pub returns-in-Err : goal.returns-in-Err
returns-in-Err g c =
    let told = c.tell_no_memory.ensures in
    ran_out _ _ _ _ _ c.tell_no_memory.result refl (Appends-nil _, Appends-nil _) (told.took, told.passed) told.status
