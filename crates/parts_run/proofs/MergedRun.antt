-- What a run writes over files that hold what is written of parts.
use Rattle.std.proofs.Common.{◌≡◌, ◌∙◌, ℕ, List, [], ◌∷◌, ◌++◌, Option, Result, Ok, Err, sym, subst, ap, inl, inr, append_assoc, append-nil}
use Rattle.std.specs.List.{AllZip}
use Rattle.std.specs.Prelude.{◌⊎◌}
use Rattle.io_edges.specs.Files.{FilesTold}
use Rattle.net_model.specs.declared.config.Config.{Config}
use Rattle.config_load.specs.Limits.{largest_limits}
use Rattle.config_load.specs.Reading.{Reading, Reads, ◌>>=◌, file_octets}
use Rattle.part_form.specs.Merging.{IsMerged}
use Rattle.part_form.specs.PartText.{part_text}
use Rattle.part_form.specs.Stated.{PartStated, part_in}
use Rattle.part_form.specs.Written.{part_read}
use Rattle.part_form.specs.declared.fault.MergeFault.{MergeFault}
use Rattle.part_form.specs.declared.fault.MergeFault.TheVariants.{OtherRewrites, NotNext, NotLast, TooMany, NoMemory}
use Rattle.part_form.specs.declared.merging.MergedText.{MergedText}
use Rattle.part_form.proofs.ReadBack.{part_reads_back}
use Rattle.part_reports.specs.Reported.{Reported, AreReportsOf, StandInOrder, all_read}
use Rattle.part_reports.proofs.InOrder.{never_refused}
use Rattle.part_reports.proofs.MergedReport.{merged_whole}
use Rattle.run_endings.proofs.Written.{whole}
use Rattle.run_endings.specs.Runs.{FilesOfRun, OutputOfRun, GotText, IsWritten}
use Rattle.run_endings.specs.Endings.{OfReading}
use Rattle.run_endings.specs.declared.ending.Ending.{Ending}
use Rattle.run_endings.specs.declared.status.Status.{Status}
use Rattle.run_endings.specs.declared.status.Status.TheVariants as statuses
use Rattle.parts_run.specs.Outcome.{IsEndingOf, Outcome, TellsMerged, faults_status}
use Rattle.parts_run.specs.Reading.{report_or, reports_read}
use Rattle.parts_run.specs.Runs.{EndsAsAsked, MergesParts, WritesReport}
use Rattle.parts_run.specs.Words.{job_of}
use Rattle.parts_run.specs.declared.words.PartsJob.{PartsJob}
use Rattle.parts_run.proofs.ReportsRead.{behind_report}

-- what is read of files that hold what is written of parts
all_told : (config : Config) (rewrites : ℕ) (told : FilesTold) (parts : List PartStated) (names : List (List ℕ)) (reports : List Reported)
    → AreReportsOf config rewrites reports
    → AllZip (λ name reported. file_octets largest_limits name told ≡ Reads (part_text reported.written)) names reports
    → reports_read parts names told ≡ Reads (Ok (parts ++ all_read reports))
all_told config rewrites told parts [] [] right each = ap (λ (ps : List PartStated). Reads (Ok ps)) (sym (append-nil parts))
all_told config rewrites told parts [] (r ∷ rs) right each = absurd each
all_told config rewrites told parts (n ∷ ns) [] right each = absurd each
all_told config rewrites told parts (n ∷ ns) (r ∷ rs) right each =
    ap (λ (read : Reading (List ℕ)). (read >>= λ octets. Reads (report_or n (part_in octets))) >>= behind_report parts n ns told) each.0
    ∙ ap (λ (found : Option PartStated). behind_report parts n ns told (report_or n found)) (part_reads_back r.written right.0.readable)
    ∙ all_told config rewrites told (parts ++ part_read r.written ∷ []) ns rs right.1 each.1
    ∙ ap (λ (ps : List PartStated). Reads (Ok ps)) (append_assoc parts (part_read r.written ∷ []) (all_read rs))

module _ (config : Config) (rewrites : ℕ) (reports : List Reported) (right : AreReportsOf config rewrites reports) (names : List (List ℕ))
    (out : OutputOfRun) (ending : Ending) where
  -- out got the report of the whole; or reports that don't stand in order are refused; or memory ran out
  abbrev Writes : Type 0
  Writes =
      WritesReport config rewrites out ending.status
      ⊎ (((ending.status ≡ statuses.Refused) × (StandInOrder reports → ⊥)) ⊎ (ending.status ≡ statuses.NoMemory))

  refused : (fault : MergeFault) → (fault ≡ NoMemory → ⊥) → IsMerged (all_read reports) (Err fault) → ending.status ≡ statuses.Refused → Writes
  refused fault other is so = inr (inl (so, λ order. other (never_refused config rewrites reports right order fault is)))

  by_answer : (answer : Result MergedText MergeFault) → IsMerged (all_read reports) answer → IsEndingOf names answer ending → GotText out ending.out → Writes
  by_answer (Ok merged) is tells got =
      let whole = merged_whole config rewrites reports right merged is in
      inl (record {
        report = whole.report;
        is_report = whole.is_report;
        got = subst (GotText out) (ap (λ (one : Ending). one.out) tells ∙ whole.text) got;
        says = ap (λ (one : Ending). one.status) tells ∙ ap faults_status whole.faults;
      })
  by_answer (Err NoMemory) is tells got = absurd tells
  by_answer (Err (OtherRewrites number)) is tells got = refused (OtherRewrites number) (λ e. cc) is (ap (λ (one : Ending). one.status) tells)
  by_answer (Err (NotNext number)) is tells got = refused (NotNext number) (λ e. cc) is (ap (λ (one : Ending). one.status) tells)
  by_answer (Err NotLast) is tells got = refused NotLast (λ e. cc) is (ap (λ (one : Ending). one.status) tells)
  by_answer (Err TooMany) is tells got = refused TooMany (λ e. cc) is (ap (λ (one : Ending). one.status) tells)

  merges : TellsMerged names (Ok (all_read reports)) ending → GotText out ending.out → Writes
  merges (answer, is, tells) got = by_answer answer is tells got

-- A run that is asked to merge files that hold what is written of parts writes the report of the whole, where its text was
-- written whole; or the reports don't stand in order; or memory ran out.
pub merges_parts : (words : List (List ℕ)) (files : FilesOfRun) (out err : OutputOfRun) (ending : Ending) → EndsAsAsked words files ending
    → (status : Status) → IsWritten ending out err status → MergesParts words files out status
merges_parts words files out err ending ends status is names job config rewrites reports right each none quiet =
    let wrote = whole ending out err status is quiet in
    subst (λ (status : Status). WritesReport config rewrites out status ⊎ (((status ≡ statuses.Refused) × (StandInOrder reports → ⊥)) ⊎ (status ≡ statuses.NoMemory))) (sym wrote.0)
    (elim (ends.complete none) [
      | inl outcome ↦ merges config rewrites reports right names out ending (tells outcome) wrote.1
      | inr ran_out ↦ inr (inr (ap (λ (one : Ending). one.status) ran_out))
    ])
  where
    tells : Outcome files.told_after (job_of words) ending → TellsMerged names (Ok (all_read reports)) ending
    tells outcome =
        subst (λ (reading : Reading (Result (List PartStated) (List ℕ))). OfReading [] (TellsMerged names) reading ending)
        (all_told config rewrites files.told_after [] names reports right each)
        (subst (λ (asked : Option PartsJob). Outcome files.told_after asked ending) job outcome)
