use Rattle.part_reports.proofs.ClassedReport.{entries_of_report}
use Rattle.part_reports.proofs.OwnHeld.{own_held}
use Rattle.part_reports.proofs.Sizes.{parts_cover}
use Rattle.part_reports.proofs.WholeReport.{whole_report}
use Rattle.query_verdicts.specs.Carried.{whole_config}
use Rattle.part_laws.specs.Part.{restricted}
use Rattle.part_reports.proofs.laws.gathered_report.Goals as goal

pub returns : goal.returns
returns c =
    record {
      gathered = λ config rewrites parts answer own_names reported gathered are. whole_report config rewrites parts answer own_names reported gathered are;
      cover = λ config parts answer. parts_cover config parts answer;
      held = λ config names own root told name based is. own_held config names own root told name based is;
      entries = λ config rewrites names report is. entries_of_report (whole_config (restricted names config) rewrites) report is;
    }
