-- What is left behind the last entry.
use Rattle.std.proofs.Common.{◌≡◌, None, rules}
use Rattle.master_lex.specs.States.{state_of, last_fault}
use Rattle.master_lex.proofs.LastLemmas.{end_taken, entry_taken}
use Rattle.master_lex.proofs.scanner.Scanner.take_last.Goals as goal

pub returns-then-has_no_token-clause-taken : goal.returns-then-has_no_token-clause-taken
returns-then-has_no_token-clause-taken c =
    let none : last_fault c.args.self.now.position ≡ None = search rules in
    end_taken (state_of c.args.self.now) (state_of c.end_last_token.new.self) c.requires none c.in_ok-end_last_token.ensures.ok (cc)

pub returns-clause-taken : goal.returns-clause-taken
returns-clause-taken c =
    let none : last_fault c.args.self.now.position ≡ None = search rules in
    entry_taken (state_of c.args.self.now) (state_of c.end_last_token.new.self) _ _ c.requires none c.in_ok-end_last_token.ensures.ok (cc) (cc) (cc)
