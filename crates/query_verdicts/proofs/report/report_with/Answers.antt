use Rattle.std.proofs.Common.{◌+◌, ◌≤◌, length, refl, subst, arith}
use Rattle.graph_form.specs.Report.{IsTreeSize}
use Rattle.query_verdicts.proofs.RowSizes.{size_of_rows}
use Rattle.query_verdicts.proofs.WholeReport.{is_report}
use Rattle.query_verdicts.proofs.report.report_with.Goals as goal

pub overflow_add-result : goal.overflow_add-result
overflow_add-result g c =
    let within : c.below_count-below.result ≤ length c.args.filed = subst (λ rows. c.below_count-below.result ≤ length rows) c.items.ensures c.below_count-below.ensures.within in
    omega (arith, c.len-names.ensures, c.requires.few)

pub overflow_cast-result : goal.overflow_cast-result
overflow_cast-result g c =
    let within : c.below_count-below.result ≤ length c.args.filed = subst (λ rows. c.below_count-below.result ≤ length rows) c.items.ensures c.below_count-below.ensures.within in
    omega (arith, c.len-names.ensures, c.requires.few)

pub returns : goal.returns
returns g c =
    let filed = c.args.filed in
    let size : IsTreeSize g.S.OnSubject.subject.ground g.S.OnSubject.subject.below c.len-names.result (c.len-names.result + c.below_count-below.result) =
    rw (c.len-names.ensures, c.below_count-below.ensures.value, c.items.ensures) (size_of_rows filed c.requires.rows) in
    let (entries, are, is) = c.in_ok-kept.ensures in
    record {
      report = record { classes = c.len-names.result + c.below_count-below.result; names = c.len-names.result; rewrites = c.rewrites.result; entries = entries };
      is_report = is_report g.S.OnSubject.subject c.rewrites.ensures.covering _ size c.rewrites.ensures.rewrites are;
      keeps = record { classes = refl; names = refl; rewrites = refl; entries = is };
    }
