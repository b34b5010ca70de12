-- What a run writes that is asked for the report of a part.
use Rattle.std.proofs.Common.{◌≡◌, ◌∙◌, Bool, false, List, [], ◌∷◌, ℕ, map, length, Contains, Option, Result, Ok, Err, sym, subst, ap, inl, inr, refl, arith}
use Rattle.std.proofs.lemmas.Bool.Decides.{nat_tests}
use Rattle.std.specs.Prelude.{◌⊎◌, not, ◌==◌}
use Rattle.dns_data.specs.Name.{Labels}
use Rattle.net_model.specs.Reading.{ground_of}
use Rattle.net_model.specs.declared.config.Config.{Config}
use Rattle.config_load.specs.Conf.{row_skips}
use Rattle.config_load.specs.Limits.{largest_limits}
use Rattle.config_load.specs.Load.{IsSteady}
use Rattle.config_load.specs.Reading.{Reading, Reads, Refuses, Misses, Unknown, ◌>>=◌, file_octets}
use Rattle.config_load.specs.Skipped.{GivesUnless, IsConfigUnless}
use Rattle.config_load.proofs.SkippedRows.{skipped_read}
use Rattle.config_load.proofs.Steady.{bind_is_steady, conf_unless_is_steady, file_is_steady, reads_later, refuses_later}
use Rattle.io_edges.specs.Files.{FilesTold, StaysTold}
use Rattle.part_checks.specs.Parts.{held_by}
use Rattle.part_checks.specs.Rules.{Keeps}
use Rattle.part_checks.specs.Skipped.{is_skipped}
use Rattle.part_checks.specs.declared.fault.PartRule.{PartRule}
use Rattle.part_checks.proofs.SkippedZones.{keeps_read, keeps_whole, left_same, own_whole, part_whole}
use Rattle.part_form.specs.PartText.{ClassedEntry}
use Rattle.part_laws.specs.Part.{IsPart, restricted}
use Rattle.part_names.specs.PartNames.{names_in}
use Rattle.part_names.specs.declared.fault.NamesFault.{NamesFault}
use Rattle.part_names.specs.declared.names.PartNames.{PartNames}
use Rattle.part_reports.specs.Gathered.{AreClassedEntriesOf}
use Rattle.part_reports.specs.Owned.{AreOwnNames}
use Rattle.part_reports.specs.Reported.{IsReportOf, Reported, report_of}
use Rattle.part_run.proofs.OwnTree.{own_same}
use Rattle.part_run.specs.PartReported.{IsPartReported, ReportsPart, faults_status as entries_status}
use Rattle.query_verdicts.specs.Carried.{whole_config}
use Rattle.report_run.specs.Budgets.{WithinNames, WithinStates}
use Rattle.report_run.specs.declared.judging.CheckLimits.{CheckLimits}
use Rattle.run_endings.proofs.Written.{whole}
use Rattle.run_endings.specs.Endings.{OfReading}
use Rattle.run_endings.specs.Runs.{FilesOfRun, OutputOfRun, GotText, IsWritten}
use Rattle.run_endings.specs.declared.ending.Ending.{Ending}
use Rattle.run_endings.specs.declared.status.Status.{Status}
use Rattle.run_endings.specs.declared.status.Status.TheVariants as statuses
use Rattle.parts_run.specs.Outcome.{Outcome, faults_status}
use Rattle.parts_run.specs.PartTold.{TellsPart, TellsRead, behind_names, config_for, part_files}
use Rattle.parts_run.specs.Runs.{EndsAsAsked, PassesLimit, RefusesNames, ReportsParts, WritesPart}
use Rattle.parts_run.specs.Words.{job_of}
use Rattle.parts_run.specs.declared.words.PartsJob.{PartsJob}

-- the status of a report by its entries is that by whether it has some
status_same : (entries : List ClassedEntry) → entries_status (map (λ (classed : ClassedEntry). classed.entry) entries) ≡ faults_status (not (length entries == 0))
status_same [] = refl
status_same (classed ∷ entries) =
    let some : (length (classed ∷ entries) == 0) ≡ false = grind (arith, nat_tests) in
    ap (λ (none : Bool). faults_status (not none)) (sym some)

module _ (limits : CheckLimits) (file : List ℕ) (config : Config) (names : PartNames) (out : OutputOfRun) (ending : Ending) where
  -- what is left of the configuration
  abbrev left : Config
  left = restricted (held_by names) config

  -- out got the report of the part; or the names are refused; or a budget is passed; or memory ran out
  abbrev Writes : Status → Type 0
  Writes status =
      WritesPart config limits.rewrites names out status
      ⊎ (RefusesNames config names status ⊎ (PassesLimit limits left status ⊎ (status ≡ statuses.NoMemory)))

  by_report : ReportsPart limits.classes limits.rewrites names config ending → GotText out ending.out → Writes ending.status
  by_report (inl (more, is)) got = inr (inr (inl (inl (more, ap (λ (one : Ending). one.status) is))))
  by_report (inr (few, inl (query, first, is))) got =
      inr (inr (inl (inr ((first.class, query, first.passes), ap (λ (one : Ending). one.status) is))))
  by_report (inr (few, inr (none, told))) got =
      inl (record {
        reported = told.reported;
        is_report = told.is_report;
        names_are = told.names_are;
        from_is = told.from_is;
        to_is = told.to_is;
        got = subst (GotText out) (ap (λ (one : Ending). one.out) told.as_text) got;
        says = ap (λ (one : Ending). one.status) told.as_text ∙ status_same told.reported.written.entries;
      })

  writes : TellsPart limits file config names ending → GotText out ending.out → Writes ending.status
  writes (inl (kept, reports)) got = by_report reports got
  writes (inr refused) got =
      inr (inl (record { rule = refused.rule; fails = refused.fails; says = ap (λ (one : Ending). one.status) refused.says }))

module _ (names : PartNames) (whole config : Config) (is : IsConfigUnless (is_skipped names) whole config) (kept : (rule : PartRule) → Keeps config names rule) where
  -- a report of the part of a configuration of which rows are skipped is one of the part of the whole
  report_whole : (rewrites : ℕ) (reported : Reported) → reported.names ≡ held_by names → reported.written.from ≡ names.from → reported.written.to ≡ names.to
      → IsReportOf config rewrites reported → IsReportOf whole rewrites reported
  report_whole rewrites reported names_are from_is to_is of_config =
      let same : restricted reported.names config ≡ restricted reported.names whole =
      subst (λ (all : List Labels). restricted all config ≡ restricted all whole) (sym names_are) (left_same names whole config is) in
      record {
        part = subst (IsPart whole) (sym names_are) (part_whole names whole config is kept (subst (IsPart config) names_are of_config.part));
        held = λ name based own.
            subst (λ (all : List Labels). Contains all name) (sym names_are)
            (own_whole names whole config is kept name based (own_same names reported.written.from reported.written.to from_is to_is name ∙ own));
        own_names = subst (λ (left : Config). AreOwnNames (ground_of left) (report_of reported)) same of_config.own_names;
        entries = subst (λ (left : Config). AreClassedEntriesOf (whole_config left rewrites) reported.written.entries) same of_config.entries;
        classes = of_config.classes;
        names_are = of_config.names_are;
        limit = of_config.limit;
        readable = of_config.readable;
      }

  -- and so is what is told of it
  reports_whole : (limit rewrites : ℕ) (ending : Ending) → ReportsPart limit rewrites names config ending → ReportsPart limit rewrites names whole ending
  reports_whole limit rewrites ending reports =
      by (subst (λ (left : Config). WithinNames left limit (WithinStates left rewrites (IsPartReported config rewrites names ending) ending) ending) (left_same names whole config is) reports)
    where
      by : WithinNames (restricted (held_by names) whole) limit (WithinStates (restricted (held_by names) whole) rewrites (IsPartReported config rewrites names ending) ending) ending
          → ReportsPart limit rewrites names whole ending
      by (inl more) = inl more
      by (inr (few, inl passes)) = inr (few, inl passes)
      by (inr (few, inr (none, told))) =
          inr (
            few,
            inr (
              none,
              record {
                reported = told.reported;
                is_report = report_whole rewrites told.reported told.names_are told.from_is told.to_is told.is_report;
                names_are = told.names_are;
                from_is = told.from_is;
                to_is = told.to_is;
                as_text = told.as_text;
              },
            ),
          )

-- what is told of a configuration of which rows are skipped is told of the whole
of_whole : (limits : CheckLimits) (file : List ℕ) (names : PartNames) (whole config : Config) → IsConfigUnless (is_skipped names) whole config → (ending : Ending)
    → TellsPart limits file config names ending → TellsPart limits file whole names ending
of_whole limits file names whole config is ending (inl (kept, reports)) =
    inl (
      λ rule. keeps_whole names whole config is rule (kept rule),
      reports_whole names whole config is kept limits.classes limits.rewrites ending reports,
    )
of_whole limits file names whole config is ending (inr refused) =
    inr (record { rule = refused.rule; name = refused.name; fails = λ kept. refused.fails (keeps_read names whole config is refused.rule kept); says = refused.says })

-- what the files of a part give they give by whatever is told later
files_are_steady : (meta file : List ℕ) → IsSteady (part_files meta file)
files_are_steady meta file =
    bind_is_steady (file_octets largest_limits file) (λ told octets. behind_names meta (names_in octets) told) (file_is_steady largest_limits file) (λ octets. by (names_in octets))
  where
    by : (read : Result PartNames NamesFault) → IsSteady (behind_names meta read)
    by (Ok names) =
        bind_is_steady (config_for names meta) (λ told config. Reads (Ok (names, config))) (conf_unless_is_steady (row_skips (is_skipped names)) largest_limits meta)
        (λ config told later stays. inl refl)
    by (Err fault) = λ told later stays. inl refl

-- a run ends by what its files give later, if they gave something
told_later : {T : Type 0} (reading : FilesTold → Reading T) → IsSteady reading → (told later : FilesTold) → StaysTold told later → (meta : List ℕ) (of_value : T → Ending → Type 0) (value : T) (ending : Ending)
    → reading later ≡ Reads value → OfReading meta of_value (reading told) ending → of_value value ending
told_later {T} reading steady told later stays meta of_value value ending gives = by (reading told) refl where
  by : (here : Reading T) → reading told ≡ here → OfReading meta of_value here ending → of_value value ending
  by (Reads one) is tells =
      let both : Reads one ≡ Reads value = sym (reads_later steady told later one stays is) ∙ gives in
      let same : one ≡ value = cc in
      subst (λ (v : T). of_value v ending) same tells
  by (Refuses fault) is tells = let clash : Refuses fault ≡ Reads value = sym (refuses_later steady told later fault stays is) ∙ gives in absurd cc
  by (Misses other) is never = absurd never
  by (Unknown other) is never = absurd never

-- A run that is asked for the report of a part writes it, where its text was written whole; or the names make no part; or a
-- budget is passed; or memory ran out.
pub reports_parts : (words : List (List ℕ)) (files : FilesOfRun) (out err : OutputOfRun) (ending : Ending) → EndsAsAsked words files ending
    → (status : Status) → IsWritten ending out err status → ReportsParts words files out status
reports_parts words files out err ending ends status is meta file octets limits config names later job stays reads there told none quiet =
    let wrote = whole ending out err status is quiet in
    subst (Writes limits file config names out ending) (sym wrote.0)
    (elim (ends.complete none) [
      | inl outcome ↦ writes limits file config names out ending (of_whole limits file names config given.config given.is ending (tells outcome)) wrote.1
      | inr ran_out ↦ inr (inr (inr (ap (λ (one : Ending). one.status) ran_out)))
    ])
  where
    -- what is read where rows are skipped
    given : GivesUnless (is_skipped names) config (config_for names meta later)
    given = skipped_read (is_skipped names) largest_limits meta later config reads

    gives : part_files meta file later ≡ Reads (Ok (names, given.config))
    gives =
        ap (λ (reading : Reading (List ℕ)). reading >>= λ octets. behind_names meta (names_in octets) later) there
        ∙ (ap (λ (read : Result PartNames NamesFault). behind_names meta read later) told
        ∙ ap (λ (reading : Reading Config). reading >>= λ config. Reads (Ok (names, config))) given.reads)

    tells : Outcome files.told_after (job_of words) ending → TellsPart limits file given.config names ending
    tells outcome =
        told_later (part_files meta file) (files_are_steady meta file) files.told_after later stays meta (TellsRead limits file) (Ok (names, given.config)) ending gives
        (subst (λ (asked : Option PartsJob). Outcome files.told_after asked ending) job outcome)
