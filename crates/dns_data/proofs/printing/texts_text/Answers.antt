-- The first text stands alone, and each other one behind a space.
use Rattle.std.proofs.Common.{codes, sym, lit<}
use Rattle.dns_data.proofs.Pieces.{separated-first, separated-more}
use Rattle.dns_data.specs.DataText.{quoted}
use Rattle.dns_data.proofs.printing.texts_text.Goals as goal
use Rattle.dns_data.proofs.printing.texts_text.Goals.{then-i-gt0+in_ok-push, else-i-gt0}

pub loop-i-preserved : goal.loop-i-preserved
loop-i-preserved c =
    elim c.if-i-gt0.branch [
      | then-i-gt0+in_ok-push w ↦
          let e = separated-more (codes " ") quoted c.args.texts.now c.loop-i.i c.index-texts-i.result w.if-i-gt0.true c.loop-i-test.true c.index-texts-i.is in
          rw (c.in_ok-push_quoted.ensures, w.text-is, w.in_ok-push.ensures.bytes, w.in_ok-push.ensures.ascii (lit< tt), c.loop-i.invariant, c.items.ensures) (sym e)
      | else-i-gt0 w ↦
          let e = separated-first (codes " ") quoted c.args.texts.now c.loop-i.i c.index-texts-i.result w.if-i-gt0.false c.loop-i-test.true c.index-texts-i.is in
          rw (c.in_ok-push_quoted.ensures, w.text-is, c.loop-i.invariant, c.items.ensures) (sym e)
    ]
