-- First the entries come back, then the tokens of the entry under way.
use Rattle.std.proofs.Common.{sym, ap}
use Rattle.master_lex.proofs.UndoLemmas.{same_state}
use Rattle.master_lex.proofs.scanner.Scanner.undo.Goals as goal

pub returns : goal.returns
returns c before marked grew =
    let entries = c.undo_entries.ensures.ready before.ready before.tokens before.raw (sym (ap (λ m. m.ready) marked)) grew in
    let rest = c.undo_entries.ensures.tokens before.ready before.tokens before.raw (sym (ap (λ m. m.ready) marked)) grew in
    let tokens = c.undo_tokens.ensures.tokens before.tokens before.raw (sym (ap (λ m. m.tokens) marked)) (sym (ap (λ m. m.raw) marked)) rest in
    let raw = c.undo_tokens.ensures.raw before.tokens before.raw (sym (ap (λ m. m.tokens) marked)) (sym (ap (λ m. m.raw) marked)) rest in
    same_state before entries tokens raw (ap (λ m. m.position) marked)
