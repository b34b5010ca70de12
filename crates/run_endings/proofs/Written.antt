-- A run up to the writing, and the writing of its ending, are a run as it is seen from outside.
use Rattle.std.proofs.Common.{◌≡◌, ℕ, List, [], ◌++◌, ap, ◌∙◌, inl, inr, refl, subst, sym, append-nil}
use Rattle.std.specs.Prelude.{Option, None, Some}
use Rattle.std.specs.Io.KnownBytes.{Appends, Keeps}
use Rattle.io_edges.specs.Counts.{Rose}
use Rattle.io_edges.specs.Files.{FilesTold}
use Rattle.run_endings.specs.declared.ending.Ending.{Ending}
use Rattle.run_endings.specs.declared.status.Status.{Status}
use Rattle.run_endings.specs.declared.status.Status.TheVariants.{WriteFault, NoMemory}
use Rattle.run_endings.specs.Endings.{no_memory}
use Rattle.run_endings.specs.Writing.{output_failed}
use Rattle.run_endings.specs.Runs.{FilesOfRun, OutputOfRun, NoneFailed, GotText, IsLeftOn, GotLine, IsWritten, Ends, Runs}

-- known bytes that grow by nothing are kept
grown_by_none : (a b : Option (List ℕ)) (text : List ℕ) → text ≡ [] → Appends a b text → Keeps a b
grown_by_none None b text none grows = tt
grown_by_none (Some xs) None text none grows = absurd grows
grown_by_none (Some xs) (Some ys) text none grows = grows ∙ (ap (λ r. xs ++ r) none ∙ append-nil xs)

-- a run ends so where memory ran out before a file was opened
pub nothing_done : (IsOutcome : FilesTold → Ending → Type 0) (ComesTo : FilesTold → List ℕ → Type 0) (files : FilesOfRun) (ending : Ending)
    → files.told_after ≡ files.told_before → ending ≡ no_memory → Ends IsOutcome ComesTo files ending
nothing_done IsOutcome ComesTo files ending same is = subst (Ends IsOutcome ComesTo files) (sym is) (record {
  complete = λ none. inr refl;
  cause = inr (inr refl);
  read_fault = λ file is. absurd (cc);
  no_write_fault = λ is. absurd (cc);
  silent = λ nothing. refl;
  from_the_start = λ tells. same;
  opens = λ file. inl (ap (λ (told : FilesTold). told file) same);
})

-- where no call of out failed, the status is the ending's, and out got its whole text
pub whole : (ending : Ending) (out err : OutputOfRun) (status : Status) → IsWritten ending out err status → NoneFailed out
    → (status ≡ ending.status) × GotText out ending.out
whole ending out err status (inl (is, got, told)) quiet = (is, got)
whole ending out err status (inr (is, rose, left, told)) quiet = absurd (quiet rose)

module _ (IsOutcome : FilesTold → Ending → Type 0) (ComesTo : FilesTold → List ℕ → Type 0) (files : FilesOfRun) (out err : OutputOfRun) (ending : Ending)
    (ends : Ends IsOutcome ComesTo files ending) where
  -- out got the whole text, and err its line
  pub written : GotText out ending.out → GotLine err ending.err → Runs IsOutcome ComesTo files out err ending.status
  written got told = record {
    complete = λ none quiet. elim (ends.complete none) [
      | inl outcome ↦ inl (ending, outcome, refl, got)
      | inr ran_out ↦ inr (ap (λ (one : Ending). one.status) ran_out)
    ];
    cause = (ending, ending, ends.cause, (inl (refl, got.0), inl (refl, got.1)), refl, told);
    read_fault = ends.read_fault;
    write_fault = λ is. absurd (ends.no_write_fault is);
    silent = λ nothing. (grown_by_none _ _ _ (ends.silent nothing) got.0, grown_by_none _ _ _ (ends.silent nothing) got.1);
    from_the_start = ends.from_the_start;
    opens = ends.opens;
  }

  -- out failed, and err got the line that says so
  pub not_written : Rose out.failed_before out.failed_after → IsLeftOn out ending output_failed → GotLine err output_failed.err
      → Runs IsOutcome ComesTo files out err WriteFault
  not_written rose left told = record {
    complete = λ none quiet. absurd (quiet rose);
    cause = (ending, output_failed, ends.cause, left, refl, told);
    read_fault = λ file is. absurd (cc);
    write_fault = λ is. rose;
    silent = λ nothing. absurd (cc);
    from_the_start = ends.from_the_start;
    opens = ends.opens;
  }

  -- so a written ending is a run
  pub of_written : (status : Status) → IsWritten ending out err status → Runs IsOutcome ComesTo files out err status
  of_written status (inl (is, got, told)) = subst (Runs IsOutcome ComesTo files out err) (sym is) (written got told)
  of_written status (inr (is, rose, left, told)) = subst (Runs IsOutcome ComesTo files out err) (sym is) (not_written rose left told)

-- where memory ran out before anything was done, and err got the line that says so, it is a run of each job
pub ran_out : (IsOutcome : FilesTold → Ending → Type 0) (ComesTo : FilesTold → List ℕ → Type 0) (files : FilesOfRun) (out err : OutputOfRun) (how : Status)
    → files.told_after ≡ files.told_before → GotText out [] → GotLine err no_memory.err → how ≡ NoMemory → Runs IsOutcome ComesTo files out err how
ran_out IsOutcome ComesTo files out err how same got told is =
    of_written IsOutcome ComesTo files out err no_memory (nothing_done IsOutcome ComesTo files no_memory same refl) how (inl (is, got, told))
