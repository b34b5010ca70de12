-- More was taken of the file that is open, and read.
use Rattle.std.proofs.Common.{◌≡◌, ◌++◌, List, rules}
use Rattle.std.specs.Prelude.{◌≢◌, Err}
use Rattle.master_lex.specs.Lexer.{IsLexerOf}
use Rattle.master_lex.specs.declared.entry.Entry.{Entry}
use Rattle.master_read.specs.Reader.{IsSettled}
use Rattle.master_read.specs.declared.fault.TextFault.TheVariants.{NoMemory}
use Rattle.master_read.proofs.Reading.{takes, reads_on, settles}
use Rattle.master_read.proofs.reader.ZoneReader.read_part.Goals as goal

pub returns-clause-read : goal.returns-clause-read
returns-clause-read c origin ended text reading =
    let inside = c.self.inside in
    let r = rw (← c.self.view_is) at reading in
    let all : (more : List Entry) × (c.take_all.new.entries.items ≡ inside.file.entries.items ++ more) × IsLexerOf c.take_all.new.lexer (text ++ c.args.octets.now) (r.0 ++ more)
    = c.in_ok-take_all.ensures.stands (text ++ c.args.octets.now) r.0 (c.in_ok-feed.ensures.stands text r.0 r.1.0) in (
      r.0 ++ all.0,
      (
        all.2,
        reads_on inside.limits inside.file inside.around.items origin inside.records c.read_ready.new.records c.take_all.new.entries.items c.read_ready.new.entries.items ended (r.0 ++ all.0)
            c.in_ok-read_ready.ensures.read
            (takes inside.limits inside.file inside.around.items origin inside.records inside.file.entries.items c.take_all.new.entries.items ended r.0 all.0 all.1 r.1.1),
      ),
    )

pub returns-in_err-read_ready-clause-fault : goal.returns-in_err-read_ready-clause-fault
returns-in_err-read_ready-clause-fault c origin ended text reading =
    let inside = c.self.inside in
    let fault = c.in_err-read_ready.field-0.0 in
    let r = rw (← c.self.view_is) at reading in
    let all : (more : List Entry) × (c.take_all.new.entries.items ≡ inside.file.entries.items ++ more) × IsLexerOf c.take_all.new.lexer (text ++ c.args.octets.now) (r.0 ++ more)
    = c.in_ok-take_all.ensures.stands (text ++ c.args.octets.now) r.0 (c.in_ok-feed.ensures.stands text r.0 r.1.0) in
    let here : fault ≢ NoMemory → IsSettled fault c.args.self.now.limits origin ended (text ++ c.args.octets.now)
    = λ named. rw (← c.self.view_is) (settles inside.limits inside.file inside.around.items origin inside.records c.take_all.new.entries.items ended (r.0 ++ all.0) c.take_all.new.lexer
    (text ++ c.args.octets.now) fault c.in_err-read_ready.ensures.fault named (search rules) all.2
    (takes inside.limits inside.file inside.around.items origin inside.records inside.file.entries.items c.take_all.new.entries.items ended r.0 all.0 all.1 r.1.1)) in
    let is : c.from_residual-in_err-read_ready.result ≡ Err fault = search rules in
    rw is here
