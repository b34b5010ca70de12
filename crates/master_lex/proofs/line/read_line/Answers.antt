-- A part more was passed.
use Rattle.std.proofs.Common.{[]}
use Rattle.master_lex.specs.Lines.{in_line}
use Rattle.master_lex.specs.States.{LexState, empty, entry_ended}
use Rattle.master_lex.proofs.Reached.{first_more}
use Rattle.master_lex.proofs.line.read_line.Goals as goal

pub loop-count-preserved : goal.loop-count-preserved
loop-count-preserved c =
    let line = λ (s : LexState). first_more (in_line s []) (in_line s c.loop-count.tokens.items) (in_line s c.pass_part.new.tokens.items) c.args.octets.now c.loop-count.passed c.in-Token.count (c.loop-count.invariant.1 s) (c.in-Token.ensures.passed s) in
    ((line empty).within, line)

pub returns-in-End : goal.returns-in-End
returns-in-End c =
    let line = λ (s : LexState). first_more (in_line s []) (in_line s c.loop-count.tokens.items) (entry_ended (in_line s c.pass_part.new.tokens.items)) c.args.octets.now c.loop-count.passed c.in-End.count (c.loop-count.invariant.1 s) (c.in-End.ensures.passed s) in
    record { line = λ some. line; within = (line empty).within }
