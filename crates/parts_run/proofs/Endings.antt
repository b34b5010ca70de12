-- How the run of a job ends is how the run of its words ends.
use Rattle.std.proofs.Common.{◌≡◌, ℕ, Bool, true, false, List, [], map, None, Some, Result, Ok, Err, ap, sym, subst, inl, refl}
use Rattle.std.specs.Prelude.{◌⊎◌}
use Rattle.io_edges.specs.Files.{FilesTold}
use Rattle.io_edges.proofs.Told.{TellsAll-same}
use Rattle.config_load.specs.Faults.{FailedAt}
use Rattle.config_load.specs.Follows.{Answers}
use Rattle.config_load.specs.Sources.{ReadsFor}
use Rattle.config_load.specs.declared.fault.LoadFault.{LoadFault}
use Rattle.config_load.proofs.Answered.{Gives-answers, FailedWhereItCame-answers}
use Rattle.config_load.proofs.Opens.{OpensNoOther-answers}
use Rattle.part_form.specs.Stated.{PartStated, part_of}
use Rattle.part_form.specs.declared.stated.StatedPart.{StatedPart}
use Rattle.part_form.specs.declared.fault.MergeFault.{MergeFault}
use Rattle.part_form.specs.declared.fault.MergeFault.TheVariants as merge_faults
use Rattle.part_form.specs.declared.merging.MergedText.{MergedText}
use Rattle.run_endings.proofs.AsAsked.{Says, SaysSo, as_asked, over_fault, over_read, reading_says}
use Rattle.run_endings.specs.Ends.{EndsOver}
use Rattle.run_endings.specs.Endings.{no_memory, without_output}
use Rattle.run_endings.specs.Runs.{FilesOfRun}
use Rattle.run_endings.specs.declared.ending.Ending.{Ending}
use Rattle.run_endings.specs.declared.status.Status.TheVariants.{Usage}
use Rattle.parts_run.specs.Answered.{IsNotRead, answered}
use Rattle.parts_run.specs.declared.fault.ReadFault.{ReadFault}
use Rattle.parts_run.specs.declared.fault.ReadFault.TheVariants.{NotReport, Load}
use Rattle.parts_run.specs.Outcome.{IsEndingOf, TellsMerged, faults_status}
use Rattle.parts_run.specs.Reading.{reports_read}
use Rattle.parts_run.specs.Runs.{JobEnds}
use Rattle.parts_run.specs.Words.{usage_line}
use Rattle.parts_run.specs.declared.words.PartsJob.TheVariants.{Merge}

-- ---- what is told of what was read says with its status whether out gets something

by_test : (test : Bool) (out : List ℕ) → Says (faults_status test) out
by_test true out = tt
by_test false out = tt

of_answer : (names : List (List ℕ)) (answer : Result MergedText MergeFault) (ending : Ending) → IsEndingOf names answer ending → SaysSo ending
of_answer names (Ok merged) ending is = subst SaysSo (sym is) (by_test merged.has_faults merged.text)
of_answer names (Err merge_faults.NoMemory) ending never = absurd never
of_answer names (Err (merge_faults.OtherRewrites number)) ending is = subst SaysSo (sym is) refl
of_answer names (Err (merge_faults.NotNext number)) ending is = subst SaysSo (sym is) refl
of_answer names (Err merge_faults.NotLast) ending is = subst SaysSo (sym is) refl
of_answer names (Err merge_faults.TooMany) ending is = subst SaysSo (sym is) refl

of_told : (names : List (List ℕ)) (read : Result (List PartStated) (List ℕ)) (ending : Ending) → TellsMerged names read ending → SaysSo ending
of_told names (Ok parts) ending (answer, merged, is) = of_answer names answer ending is
of_told names (Err file) ending is = subst SaysSo (sym is) refl

-- ---- by what the files give

module _ (names : List (List ℕ)) (files : FilesOfRun) (ending : Ending)
    (source : ReadsFor files.told_before files.told_after files.failed_before files.failed_after (reports_read [] names)) where
  abbrev Read : Type 0
  Read = Result (List PartStated) (List ℕ)

  ended : EndsOver {T = Read} [] (reports_read [] names) (TellsMerged names) files.told_after files.failed_before files.failed_after ending → JobEnds (Some (Merge names)) files ending
  ended ends =
      as_asked _ _ files ending (reading_says [] (TellsMerged names) ending (λ read. of_told names read ending) (reports_read [] names files.told_after)) ends
      (λ all. TellsAll-same files.told_before files.told_after all source.stays)
      (OpensNoOther-answers (reports_read [] names) files.told_before files.told_after source.opens)

  of_read : (read : Read) → Answers files.told_after (reports_read [] names) (let result : Result Read LoadFault = Ok read in result)
      → TellsMerged names read ending ⊎ (ending ≡ no_memory) → JobEnds (Some (Merge names)) files ending
  of_read read answers tells =
      ended (over_read [] (reports_read [] names) files.told_after files.failed_before files.failed_after ending (TellsMerged names) read
      (Gives-answers files.told_after (reports_read [] names) (Ok read) answers) tells)

  -- a run whose reports were read ends with what is told of them, or because memory ran out
  pub over_reports : (parts : List StatedPart) → (let result : Result (List StatedPart) ReadFault = Ok parts in Answers files.told_after (reports_read [] names) (answered (map part_of) result))
      → TellsMerged names (Ok (map part_of parts)) ending ⊎ (ending ≡ no_memory) → JobEnds (Some (Merge names)) files ending
  over_reports parts = of_read (Ok (map part_of parts))

  -- a run whose reports weren't read ends by that, or because memory ran out
  pub over_unread : (fault : ReadFault)
      → (let result : Result (List StatedPart) ReadFault = Err fault in Answers files.told_after (reports_read [] names) (answered (map part_of) result))
      → (let result : Result (List StatedPart) ReadFault = Err fault in FailedAt files.failed_before files.failed_after (answered (map part_of) result))
      → IsNotRead fault ending ⊎ (ending ≡ no_memory) → JobEnds (Some (Merge names)) files ending
  over_unread (NotReport file) answers failed is = of_read (Err file) answers is
  over_unread (Load fault) answers failed is =
      let result : Result Read LoadFault = Err fault in
      ended (over_fault [] (reports_read [] names) files.told_after files.failed_before files.failed_after ending (TellsMerged names) fault
      (Gives-answers files.told_after (reports_read [] names) result answers) (FailedWhereItCame-answers files.told_after (reports_read [] names) result answers) failed is)

-- a run whose words ask for nothing ends with the line that says what may be asked
pub without_job : (files : FilesOfRun) (ending : Ending) → files.told_after ≡ files.told_before → ending ≡ without_output Usage usage_line → JobEnds None files ending
without_job files ending same is =
    as_asked _ _ files ending (λ usage. subst SaysSo (sym usage) refl) (inl is) (λ tells. same) (λ file. inl (ap (λ (told : FilesTold). told file) same))
