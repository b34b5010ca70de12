-- What was kept or is plain under way was passed over.
use Rattle.std.proofs.Common.{◌≡◌, rules}
use Rattle.std.proofs.lemmas.Result.{IfOk-weaker}
use Rattle.master_lex.specs.declared.position.Mode.TheVariants.{InToken}
use Rattle.master_lex.specs.declared.position.Escape.TheVariants.{Outside}
use Rattle.master_lex.specs.States.{state_of}
use Rattle.master_lex.specs.Plain.{KeptPlain, PassedFirst}
use Rattle.master_lex.proofs.PlainLemmas.{kept_in_token, comment_first, faulty_first}
use Rattle.master_lex.proofs.scanner.Scanner.pass_plain.Goals as goal

pub returns-in-InToken-default-Outside-clause-ok : goal.returns-in-InToken-default-Outside-clause-ok
returns-in-InToken-default-Outside-clause-ok c =
    let old = state_of c.args.self.now in
    let new = state_of c.keep_plain.new.self in
    let quoted = c.in-InToken-default-Outside.quoted in
    let mode : c.args.self.now.position.mode ≡ InToken quoted Outside = search rules in
    IfOk-weaker c.keep_plain.result (KeptPlain old new c.args.octets.now quoted) (PassedFirst old new c.args.octets.now) (kept_in_token quoted old new c.args.octets.now mode) c.keep_plain.ensures.ok

pub returns-in-Comment-clause-ok : goal.returns-in-Comment-clause-ok
returns-in-Comment-clause-ok c = comment_first (state_of c.args.self.now) c.args.octets.now c.line_len.result c.in-Comment.is c.line_len.ensures

pub returns-in-Faulty-clause-ok : goal.returns-in-Faulty-clause-ok
returns-in-Faulty-clause-ok c = faulty_first (state_of c.args.self.now) c.args.octets.now c.in-Faulty.field-0 c.in-Faulty.is
