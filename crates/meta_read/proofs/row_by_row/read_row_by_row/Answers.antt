use Rattle.std.proofs.Common.{◌∙◌, ◌∷◌, ap, sym, subst}
use Rattle.json.specs.Lex.{tokens}
use Rattle.json.specs.Reads.{token_of}
use Rattle.meta_read.specs.RowByRow.{ReadsMembers}
use Rattle.meta_read.proofs.RowByRow.{whole_object}
use Rattle.meta_read.proofs.row_by_row.read_row_by_row.Goals as goal

pub returns-in-None : goal.returns-in-None
returns-in-None c =
    let start = c.next.new.self in
    let found = c.next_members.new.found in
    let opens = c.in-Some-BeginObject.ensures.value ∙ ap (λ token. token_of token ∷ start) c.in-Some-BeginObject.field-0-is in
    whole_object c.args.most c.args.octets.now start found c.in-Ok.ensures.cases.1
    (ap tokens (sym c.in-Ok.ensures.cases.0) ∙ sym c.in-Ok-new.ensures.ok ∙ opens)
    (subst (λ left. ReadsMembers c.args.most start left found) c.in-None.ensures.value.0 c.in-Ok-next_members.ensures)
