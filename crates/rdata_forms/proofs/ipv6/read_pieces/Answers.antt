use Rattle.rdata_forms.proofs.Groups.{pieces_taken, pieces_refused}
use Rattle.rdata_forms.proofs.ipv6.read_pieces.Goals as goal

pub returns-in_err-push_group-clause-none : goal.returns-in_err-push_group-clause-none
returns-in_err-push_group-clause-none c =
    rw c.from_residual-in_err-push_group.ensures
    (pieces_refused c.args.ends c.loop-after.octets.items c.first_piece.result.0.now c.loop-after.rest.now c.in-Some.after.now _
    (rw c.in-Some.is at c.first_piece.ensures.pieces) c.in_err-push_group.ensures.none c.loop-after.invariant)

pub loop-after-preserved : goal.loop-after-preserved
loop-after-preserved c =
    pieces_taken c.args.ends c.loop-after.octets.items c.push_group.new.octets.items c.first_piece.result.0.now c.loop-after.rest.now c.in-Some.after.now _
    (rw c.in-Some.is at c.first_piece.ensures.pieces) c.in_ok-push_group.ensures.some c.loop-after.invariant
