-- Behind the last entry all were taken.
use Rattle.std.proofs.Common.{◌++◌, ◌∙◌, sym}
use Rattle.master_lex.proofs.Values.{taken_all, taken_to_fault}
use Rattle.master_read.proofs.file.take_all.Goals as goal

pub returns-in-Ok-End-clause-all : goal.returns-in-Ok-End-clause-all
returns-in-Ok-End-clause-all c ended text taken stands =
    let so_far = c.loop-entry.invariant.stands text taken stands in
    let answered = rw c.in-Ok-End.field-0-is at (c.in-Ok-End.ensures.answer text (taken ++ so_far.0) so_far.2) in
    let all = taken_all c.loop-entry.lexer text (taken ++ so_far.0) (c.loop-entry.invariant.finished ∙ ended) so_far.2 answered in
    (so_far.0, so_far.1, sym all.0, all.1)

pub returns-in-Err-Lex-clause-all : goal.returns-in-Err-Lex-clause-all
returns-in-Err-Lex-clause-all c ended text taken stands =
    let so_far = c.loop-entry.invariant.stands text taken stands in
    let answered = rw c.in-Err-Lex.field-0-is at (c.in-Err-Lex.ensures.answer text (taken ++ so_far.0) so_far.2) in
    let all = taken_to_fault c.loop-entry.lexer text (taken ++ so_far.0) (c.loop-entry.invariant.finished ∙ ended) so_far.2 c.in-Err-Lex.line c.in-Err-Lex.kind answered in
    (so_far.0, so_far.1, sym all.0, rw (c.in-Err-Lex.line-is, c.in-Err-Lex.kind-is) all.1)
