-- A run ends with the report of a configuration exactly if the three parts hold.
use Rattle.std.proofs.Common.{◌≡◌, ◌≢◌, ◌↔◌, ℕ, AllPairs, Less, subst}
use Rattle.dns_data.proofs.Membership.{along, each_along, map_has, from_map, pairs_of_images}
use Rattle.graph_form.specs.Report.{Subject, IsReport, IsShown}
use Rattle.graph_form.specs.declared.report.Report.{Report}
use Rattle.graph_form.specs.declared.report.ReportEntry.{ReportEntry}
use Rattle.groot_run.specs.Outcome.{IsReported}
use Rattle.net_model.specs.declared.config.Config.{Config}
use Rattle.net_model.specs.FaultOrder.{fault_cmp}
use Rattle.net_model.proofs.FaultOrder.{faults_total}
use Rattle.query_verdicts.specs.Carried.{whole_config}
use Rattle.run_endings.specs.declared.ending.Ending.{Ending}
use Rattle.outcome_laws.proofs.RisingDiffer.{rising_differ}
use Rattle.outcome_laws.specs.Parts.{faults_of, HasFaults, HasEntries, IsWritten}

module _ (subject : Subject) (report : Report) where
  once : AllPairs (λ (a b : ReportEntry). fault_cmp a.seen.fault b.seen.fault ≡ Less) report.entries → AllPairs (λ a b. a ≢ b) (faults_of report)
  once ordered =
      rising_differ fault_cmp faults_total (faults_of report)
      (pairs_of_images (λ (entry : ReportEntry). entry.seen.fault) (λ a b. fault_cmp a b ≡ Less) report.entries ordered)

  -- a report of the subject has the three parts
  parts : IsReport subject report → HasFaults subject report × HasEntries subject report
  parts is = (
    record {
      exactly = λ fault. (
        λ has.
            let (entry, among, same) = from_map (λ (entry : ReportEntry). entry.seen.fault) report.entries fault has in
            subst (IsShown subject) same (each_along (λ (entry : ReportEntry). IsShown subject entry.seen.fault) report.entries is.each_shown entry among),
        λ shown. is.all_shown fault shown,
      );
      once = once is.ordered;
    },
    record { ordered = is.ordered; each = is.each_right; size = is.size; limit = is.limit },
  )

  -- and what has them is one
  whole : HasFaults subject report → HasEntries subject report → IsReport subject report
  whole faults entries =
      record {
        size = entries.size;
        limit = entries.limit;
        ordered = entries.ordered;
        each_right = entries.each;
        each_shown =
            along (λ (entry : ReportEntry). IsShown subject entry.seen.fault) report.entries
            (λ entry has. (faults.exactly entry.seen.fault).0 (map_has (λ (entry : ReportEntry). entry.seen.fault) report.entries entry has));
        all_shown = λ fault shown. (faults.exactly fault).1 shown;
      }

-- a run ends with the report exactly if there is one with the three parts
pub reported_in_parts : (config : Config) (rewrites : ℕ) (ending : Ending) → IsReported config rewrites ending
    ↔ ((report : Report) × HasFaults (whole_config config rewrites) report × HasEntries (whole_config config rewrites) report × IsWritten report ending)
reported_in_parts config rewrites ending = (
  λ is. let (faults, entries) = parts (whole_config config rewrites) is.report is.is_report in (is.report, faults, entries, is.as_text),
  λ (report, faults, entries, written). record { report = report; is_report = whole (whole_config config rewrites) report faults entries; as_text = written },
)
