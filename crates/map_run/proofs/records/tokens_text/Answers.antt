-- The first token stands alone, and each other one behind a space.
use Rattle.std.proofs.Common.{codes, sym}
use Rattle.dns_data.proofs.Pieces.{separated-first, separated-more}
use Rattle.map_run.specs.Columns.{as_written}
use Rattle.map_run.proofs.records.tokens_text.Goals as goal
use Rattle.map_run.proofs.records.tokens_text.Goals.{then-i-gt0+in_ok-push, else-i-gt0}

pub loop-i-preserved : goal.loop-i-preserved
loop-i-preserved c =
    elim c.if-i-gt0.branch [
      | then-i-gt0+in_ok-push w ↦
          let e = separated-more (codes " ") as_written c.args.tokens.now c.loop-i.i c.index-tokens-i.result w.if-i-gt0.true c.loop-i-test.true c.index-tokens-i.is in
          rw (c.in_ok-put_written.ensures, w.text-is, w.in_ok-push.ensures.ok, c.loop-i.invariant, c.items.ensures) (sym e)
      | else-i-gt0 w ↦
          let e = separated-first (codes " ") as_written c.args.tokens.now c.loop-i.i c.index-tokens-i.result w.if-i-gt0.false c.loop-i-test.true c.index-tokens-i.is in
          rw (c.in_ok-put_written.ensures, w.text-is, c.loop-i.invariant, c.items.ensures) (sym e)
    ]
