-- The line was passed over octet by octet, and its entry taken.
use Rattle.std.proofs.Common.{◌+◌, [], get_or, subst, sym, arith, rules}
use Rattle.master_lex.specs.declared.line.PlainLine.{PlainLine}
use Rattle.master_lex.specs.Octets.{is_space}
use Rattle.master_lex.specs.States.{LexState, state_of, start_of}
use Rattle.master_lex.specs.Lines.{HoldsNothing, HasPassedLine}
use Rattle.master_lex.proofs.Lines.{line_passed}
use Rattle.master_lex.proofs.UndoLemmas.{same_state}
use Rattle.master_lex.proofs.scanner.Scanner.pass_line.Goals as goal

pub returns-clause-some : goal.returns-clause-some
returns-clause-some c =
    let old = state_of c.args.self.now in
    let none : HoldsNothing (state_of c.args.self.now) = search rules in
    let line = line_passed old c.read_line-count.new.tokens.items c.args.octets.now c.read_line-count.result none (omega arith) (c.read_line-count.ensures.line (omega arith)) in
    let new = sym (same_state (record { ready = []; tokens = []; raw = []; position = start_of (c.args.self.now.position.line + 1) }) none.ready none.tokens none.raw c.start-self.ensures) in
    let here : PlainLine = record { octets = c.read_line-count.result; line = c.args.self.now.position.line; blank_start = is_space (get_or c.args.octets.now 0 0) } in
    rw c.begins_blank.ensures
    (subst (λ (s : LexState). HasPassedLine old s c.read_line-count.new.tokens.items c.args.octets.now here) new line)
