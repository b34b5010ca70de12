use Rattle.std.proofs.Common.{ap, subst, sym, ◌∙◌}
use Rattle.std.specs.Option.{option_map}
use Rattle.serde_json.specs.View.{view}
use Rattle.dns_data.specs.Answers.{AnswersOr}
use Rattle.meta_read.specs.RowByRow.{with_rows}
use Rattle.meta_read.specs.declared.fault.MetaFault.TheVariants.{NoMemory}
use Rattle.meta_read.proofs.RowByRow.{by_rows, view_copied}
use Rattle.meta_read.proofs.read.read_metadata_within.Goals as goal

pub returns-in-Some-rows : goal.returns-in-Some-rows
returns-in-Some-rows c =
    let rows = c.in-Some-rows.rows in
    let lent = view_copied c.as_ref.result ∙ ap (option_map view) c.as_ref.ensures.value in
    subst (AnswersOr NoMemory c.with_rows.result)
    (ap (with_rows rows) lent ∙ sym (by_rows c.args.most c.args.octets.now c.in-Some.field-0 rows c.in-Some.ensures c.in-Some-rows.is)) c.with_rows.ensures
