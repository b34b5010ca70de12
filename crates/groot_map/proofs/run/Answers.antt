use Rattle.std.proofs.Common.{◌≡◌, ◌∙◌, ℕ, List, Bor, map, ap, refl, subst}
use Rattle.std.proofs.KnownBytes.{Appends-nil}
use Rattle.run_endings.proofs.Written.{ran_out}
use Rattle.run_endings.specs.Runs.{FilesOfRun, OutputOfRun}
use Rattle.run_endings.specs.declared.status.Status.{Status}
use Rattle.map_run.specs.Runs.{RunsAsAsked}
use Rattle.groot_map.proofs.run.Goals as goal

-- a run of words is one of the same words
of_same : (files : FilesOfRun) (out err : OutputOfRun) (status : Status) (one other : List (List ℕ)) → one ≡ other
    → RunsAsAsked one files out err status → RunsAsAsked other files out err status
of_same files out err status one other same = subst (λ (words : List (List ℕ)). RunsAsAsked words files out err status) same

-- the words that the top call is given are those that were handed over
pub returns-in-Ok : goal.returns-in-Ok
returns-in-Ok g c =
    of_same _ _ _ c.groot_map.result _ _ (ap (map (λ (word : Bor (List ℕ)). word.now)) c.as_slice.ensures.value ∙ c.in-Ok.ensures) c.groot_map.ensures.run

-- where memory runs out for the words, nothing else is done
pub returns-in-Err : goal.returns-in-Err
returns-in-Err g c =
    let told = c.tell_no_memory.ensures in
    ran_out _ _ _ _ _ c.tell_no_memory.result refl (Appends-nil _, Appends-nil _) (told.took, told.passed) told.status
