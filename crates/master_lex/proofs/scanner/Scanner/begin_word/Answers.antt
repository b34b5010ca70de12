-- White space was passed over, and what is kept behind it.
use Rattle.master_lex.specs.States.{state_of}
use Rattle.master_lex.proofs.PlainLemmas.{blank_first, kept_between}
use Rattle.master_lex.proofs.Reached.{first_more}
use Rattle.master_lex.proofs.scanner.Scanner.begin_word.Goals as goal

pub returns-clause-ok : goal.returns-clause-ok
returns-clause-ok c =
    let old = state_of c.args.self.now in
    let new = state_of c.keep_plain.new.self in
    let blank = blank_first old c.args.octets.now c.blank_len-blank.result c.requires c.blank_len-blank.ensures.len in
    first_more old old new c.args.octets.now c.blank_len-blank.result c.in_ok-count.count blank (kept_between old new _ c.requires c.in_ok-count.count c.in_ok-count.ensures.ok)
