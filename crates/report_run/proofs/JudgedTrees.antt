-- What is judged of a whole configuration is what a check tells.
use Rattle.std.proofs.Common.{◌≡◌, ℕ, Ok, Err, inl, inr}
use Rattle.std.specs.Prelude.{◌⊎◌}
use Rattle.class_judge.proofs.WholeConfigs.{first_passed}
use Rattle.graph_form.specs.declared.report.ReportEntry.{ReportEntry}
use Rattle.net_model.specs.declared.config.Config.{Config}
use Rattle.net_model.specs.Reading.{ground_of}
use Rattle.query_classes.proofs.SameGrounds.{more_in_whole}
use Rattle.query_verdicts.specs.Carried.{whole_config}
use Rattle.query_verdicts.specs.Kept.{IsKeptReport}
use Rattle.query_verdicts.specs.declared.kept.KeptReport.{KeptReport}
use Rattle.query_verdicts.specs.Queries.{most_states}
use Rattle.run_endings.specs.declared.ending.Ending.{Ending}
use Rattle.run_endings.specs.Endings.{no_memory}
use Rattle.report_run.specs.Judged.{IsJudged}
use Rattle.report_run.specs.Budgets.{HasMoreNames, HasMoreNamesAt, WithinNames, WithinStates}

module _ (limit rewrites : ℕ) (config : Config) (P : Type 0) (ending : Ending) where
  few_in_whole : (HasMoreNamesAt (whole_config config rewrites) limit → ⊥) → HasMoreNames config limit → ⊥
  few_in_whole few more = few ((more_in_whole (ground_of config) limit).1 more)

  -- an ending with what is kept of the report is one of a command that judges the classes, if it is what the command gives
  -- of the report
  pub with_report : {K : Type 0} (kept_of : ReportEntry → K) (told : KeptReport K) → IsJudged limit (whole_config config rewrites) kept_of (Ok told)
      → (IsKeptReport (whole_config config rewrites) kept_of told → P ⊎ (ending ≡ no_memory))
      → WithinNames config limit (WithinStates config rewrites P ending) ending ⊎ (ending ≡ no_memory)
  with_report kept_of told (few, none, is) gives = by (gives is) where
    by : P ⊎ (ending ≡ no_memory) → WithinNames config limit (WithinStates config rewrites P ending) ending ⊎ (ending ≡ no_memory)
    by (inl ends) = inl (inr (few_in_whole few, inr (none.no_class, ends)))
    by (inr ran_out) = inr ran_out

  -- an ending without a report is one of a command, whatever it gives of a report
  pub without_report : {K : Type 0} (kept_of : ReportEntry → K) → IsJudged limit (whole_config config rewrites) kept_of (Err ending)
      → WithinNames config limit (WithinStates config rewrites P ending) ending ⊎ (ending ≡ no_memory)
  without_report kept_of (inl (inl (more, is))) = inl (inl ((more_in_whole (ground_of config) limit).0 more, is))
  without_report kept_of (inl (inr (few, inl (query, refused, is)))) =
      inl (inr (few_in_whole few, inl (query, first_passed config rewrites most_states query refused, is)))
  without_report kept_of (inl (inr (few, inr (none, no_report)))) = absurd no_report
  without_report kept_of (inr ran_out) = inr ran_out
