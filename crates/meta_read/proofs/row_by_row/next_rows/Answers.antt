use Rattle.std.proofs.Common.{◌∙◌, ◌∷◌, ap, sym, subst}
use Rattle.std.proofs.lemmas.Result.{IfOk-weaker}
use Rattle.json.specs.Reads.{token_of}
use Rattle.serde_json.specs.Data.{Data}
use Rattle.meta_read.specs.RowByRow.{ReadsValue, ReadsRows, AreRows}
use Rattle.meta_read.proofs.RowByRow.{list_of_rows}
use Rattle.meta_read.proofs.row_by_row.next_rows.Goals as goal

pub returns-clause-reads : goal.returns-clause-reads
returns-clause-reads c =
    let most = c.args.most in
    let start = c.next.new.self in
    let after = c.rows_up_to_end.new.reader in
    let opens = c.in-Some-BeginArray.ensures.value ∙ ap (λ token. token_of token ∷ start) c.in-Some-BeginArray.field-0-is in
    IfOk-weaker c.rows_up_to_end.result (ReadsRows most start after) (λ rows. (datum : Data) × ReadsValue 126 c.args.reader.now after datum × AreRows most rows datum)
    (λ rows so. subst (λ tokens. (datum : Data) × ReadsValue 126 tokens after datum × AreRows most rows datum) (sym opens) (list_of_rows start after most rows so))
    c.rows_up_to_end.ensures.reads
