use Rattle.std.proofs.Common.{◌≡◌, take}
use Rattle.std.specs.List.{flat_map}
use Rattle.run_endings.proofs.line.EndingLine.of_pieces.Given as goal

-- the text of the pieces so far
abbrev pub invariant-loop-piece : goal.invariant-loop-piece
invariant-loop-piece l = l.text ≡ flat_map (λ piece. piece.now) (take l.piece-index l.pieces)
