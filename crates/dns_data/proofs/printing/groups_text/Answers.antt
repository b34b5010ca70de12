-- The first group stands alone, and each other one behind a colon.
use Rattle.std.proofs.Common.{codes, sym, lit<, arith}
use Rattle.dns_data.proofs.Pieces.{group-first, group-more}
use Rattle.dns_data.proofs.printing.groups_text.Goals as goal
use Rattle.dns_data.proofs.printing.groups_text.Goals.{then-place-gt0+in_ok-push, else-place-gt0}

pub loop-place-preserved : goal.loop-place-preserved
loop-place-preserved c =
    elim c.if-place-gt0.branch [
      | then-place-gt0+in_ok-push w ↦
          let e = group-more (codes ":") c.args.address.now c.loop-place.place w.if-place-gt0.true (omega arith) in
          rw (c.in_ok-push_group.ensures, w.text-is, w.in_ok-push.ensures.bytes, w.in_ok-push.ensures.ascii (lit< tt), c.loop-place.invariant) (sym e)
      | else-place-gt0 w ↦
          let e = group-first (codes ":") c.args.address.now c.loop-place.place w.if-place-gt0.false (omega arith) in
          rw (c.in_ok-push_group.ensures, w.text-is, c.loop-place.invariant) (sym e)
    ]
