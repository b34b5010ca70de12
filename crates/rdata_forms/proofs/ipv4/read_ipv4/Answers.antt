use Rattle.std.proofs.Common.{sym, ap, ◌∙◌}
use Rattle.rdata_forms.proofs.Groups.{five_parts}
use Rattle.rdata_forms.proofs.Pieces.{pieces_behind}
use Rattle.rdata_forms.specs.Addresses.{ipv4_of_parts}
use Rattle.rdata_forms.proofs.ipv4.read_ipv4.Goals as goal

pub returns-then-is_some : goal.returns-then-is_some
returns-then-is_some c =
    let first = rw c.in_ok-rest.was at c.first_piece.ensures.pieces in
    let second = rw c.in_ok-rest-2.was at c.first_piece-2.ensures.pieces in
    let third = rw c.in_ok-rest-3.was at c.first_piece-3.ensures.pieces in
    let some = pieces_behind 46 c.first_piece-4.result.1 (sym c.if-is_some.ensures) in
    sym (ap ipv4_of_parts (rw (second, third, c.first_piece-4.ensures.pieces) at first) ∙ five_parts c.first_piece.result.0.now c.first_piece-2.result.0.now c.first_piece-3.result.0.now c.first_piece-4.result.0.now _ some)
