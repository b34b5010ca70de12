-- The next line was read, or a fault is settled in the octets.
use Rattle.std.proofs.Common.{◌≡◌, ◌++◌, take, refl, rules}
use Rattle.std.specs.Prelude.{◌≢◌, Err}
use Rattle.master_lex.specs.Lexer.{IsLexerOf}
use Rattle.master_lex.specs.Lines.{line_entries}
use Rattle.master_read.specs.Reader.{IsSettled}
use Rattle.master_read.specs.declared.fault.TextFault.TheVariants.{NoMemory}
use Rattle.master_read.proofs.Parts.{first_settles}
use Rattle.master_read.proofs.Reading.{takes, reads_on, settles}
use Rattle.master_read.proofs.reader.ZoneReader.read_next.Goals as goal

pub returns-in_err-read_part-clause-fault : goal.returns-in_err-read_part-clause-fault
returns-in_err-read_part-clause-fault c origin ended text reading =
    let fault = c.in_err-read_part.field-0.0 in
    let r = rw (← c.self.view_is) at reading in
    let here : fault ≢ NoMemory → IsSettled fault c.args.self.now.limits origin ended (text ++ c.args.octets.now)
    = λ named. first_settles c.args.octets.now c.line_len-count.result fault c.args.self.now.limits origin ended text
    (rw (← c.self.view_is) (c.in_err-read_part.ensures.fault origin ended text (r.0, (rw c.in_default.ensures.none r.1.0, r.1.1)) named)) in
    let is : c.from_residual.result ≡ Err fault = search rules in
    rw is here

pub returns-in_default-clause-read : goal.returns-in_default-clause-read
returns-in_default-clause-read c origin ended text reading =
    let r = rw (← c.self.view_is) at reading in
    c.in_ok-read_part.ensures.read origin ended text (r.0, (rw c.in_default.ensures.none r.1.0, r.1.1))

pub returns-in_err-read_line-clause-fault : goal.returns-in_err-read_line-clause-fault
returns-in_err-read_line-clause-fault c origin ended text reading =
    let inside = c.self.inside in
    let fault = c.in_err-read_line.field-0.0 in
    let octets = c.in-Some.line.octets in
    let waiting = inside.file.entries.items in
    let entries = line_entries c.in-Some.line c.deref.result.now in
    let r = rw (← c.self.view_is) at reading in
    let stands : IsLexerOf c.pass_line.new.self (text ++ take octets c.args.octets.now) (r.0 ++ entries) = rw c.deref.ensures.value (c.in-Some.ensures.stands text r.0 r.1.0) in
    let here : fault ≢ NoMemory → IsSettled fault c.args.self.now.limits origin ended (text ++ c.args.octets.now)
    = λ named. first_settles c.args.octets.now octets fault c.args.self.now.limits origin ended text
    (rw (← c.self.view_is) (settles inside.limits inside.file inside.around.items origin inside.records (waiting ++ entries) ended (r.0 ++ entries) c.pass_line.new.self
    (text ++ take octets c.args.octets.now) fault c.in_err-read_line.ensures.fault named c.in-Some.ensures.open stands
    (takes inside.limits inside.file inside.around.items origin inside.records waiting (waiting ++ entries) ended r.0 entries refl r.1.1))) in
    let is : c.from_residual-in_err-read_line.result ≡ Err fault = search rules in
    rw is here

pub returns-clause-read : goal.returns-clause-read
returns-clause-read c origin ended text reading =
    let inside = c.self.inside in
    let waiting = inside.file.entries.items in
    let entries = line_entries c.in-Some.line c.deref.result.now in
    let r = rw (← c.self.view_is) at reading in
    let stands : IsLexerOf c.pass_line.new.self (text ++ take c.in-Some.line.octets c.args.octets.now) (r.0 ++ entries) = rw c.deref.ensures.value (c.in-Some.ensures.stands text r.0 r.1.0) in (
      r.0 ++ entries,
      (
        stands,
        reads_on inside.limits inside.file inside.around.items origin inside.records c.read_line.new.records (waiting ++ entries) c.read_line.new.entries.items ended (r.0 ++ entries)
            c.in_ok-read_line.ensures.read
            (takes inside.limits inside.file inside.around.items origin inside.records waiting (waiting ++ entries) ended r.0 entries refl r.1.1),
      ),
    )
