-- What is kept was passed over.
use Rattle.master_lex.specs.States.{state_of}
use Rattle.master_lex.proofs.PlainLemmas.{kept_start}
use Rattle.master_lex.proofs.scanner.Scanner.begin_entry.Goals as goal

pub returns-then-count-gt0-clause-ok : goal.returns-then-count-gt0-clause-ok
returns-then-count-gt0-clause-ok c =
    kept_start (state_of c.args.self.now) (state_of c.keep_plain.new.self) c.args.octets.now c.in_ok-count.count c.requires c.if-count-gt0.true c.in_ok-count.ensures.ok
