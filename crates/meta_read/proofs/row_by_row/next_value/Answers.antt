use Rattle.std.proofs.Common.{◌∙◌, ap, sym, arith}
use Rattle.json.specs.Value.{value_view}
use Rattle.serde_json.specs.Read.{read}
use Rattle.meta_read.proofs.RowByRow.{read-print}
use Rattle.meta_read.proofs.row_by_row.next_value.Goals as goal

pub returns-in-Ok-clause-reads : goal.returns-in-Ok-clause-reads
returns-in-Ok-clause-reads c =
    let found = value_view c.in_ok-read.read in
    let shallow = c.in_ok-read.ensures.nests in
    let text = ap read (c.as_slice.ensures.value ∙ c.in_ok-text.ensures.text) in
    (found, c.in_ok-read.ensures.ok, sym (read-print found c.in_ok-read.ensures.writable (omega (arith, shallow, c.requires))) ∙ sym text ∙ c.in-Ok.ensures.ok.1)
