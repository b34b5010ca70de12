-- What the last answer says of what was given.
use Rattle.std.proofs.Common.{◌≡◌, Some, ◌∙◌}
use Rattle.master_lex.proofs.Values.{taken_all, never_more, taken_to_fault, made_fault}
use Rattle.master_lex.proofs.reading.take_all.Goals as goal

pub returns-in-Ok-End : goal.returns-in-Ok-End
returns-in-Ok-End c text begun =
    let stands = c.loop-entry.invariant.stands text begun in
    let answered = rw c.in-Ok-End.field-0-is at (c.in-Ok-End.ensures.answer text c.loop-entry.entries stands) in
    let r = taken_all c.loop-entry.lexer text c.loop-entry.entries c.loop-entry.invariant.finished stands answered in
    (c.new-in-Ok-End.ensures.entries ∙ r.0, c.new-in-Ok-End.ensures.fault ∙ r.1)

pub returns-in-Ok-More : goal.returns-in-Ok-More
returns-in-Ok-More c text begun =
    let stands = c.loop-entry.invariant.stands text begun in
    let answered = rw c.in-Ok-More.field-0-is at (c.in-Ok-More.ensures.answer text c.loop-entry.entries stands) in
    absurd (never_more c.loop-entry.lexer text c.loop-entry.entries c.loop-entry.invariant.finished stands answered)

pub returns-in-Err-Lex : goal.returns-in-Err-Lex
returns-in-Err-Lex c text begun =
    let stands = c.loop-entry.invariant.stands text begun in
    let answered = rw c.in-Err-Lex.field-0-is at (c.in-Err-Lex.ensures.answer text c.loop-entry.entries stands) in
    let r = taken_to_fault c.loop-entry.lexer text c.loop-entry.entries c.loop-entry.invariant.finished stands c.in-Err-Lex.line c.in-Err-Lex.kind answered in
    let fault : c.new-in-Err-Lex.result.fault ≡ Some (made_fault c.in-Err-Lex.line c.in-Err-Lex.kind) = rw (← c.in-Err-Lex.line-is, ← c.in-Err-Lex.kind-is) c.new-in-Err-Lex.ensures.fault in
    (c.new-in-Err-Lex.ensures.entries ∙ r.0, fault ∙ r.1)
