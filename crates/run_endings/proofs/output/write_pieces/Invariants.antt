use Rattle.std.proofs.Common.{◌≤◌, take}
use Rattle.std.specs.List.{flat_map}
use Rattle.std.specs.Io.KnownBytes.{Appends}
use Rattle.run_endings.proofs.output.write_pieces.Given as goal

-- the sink took and passed on the pieces so far
abbrev pub invariant-loop-piece : goal.invariant-loop-piece
invariant-loop-piece g l = record {
  taken : Appends (g.S.Sink.taken l.initial.sink) (g.S.Sink.taken l.sink) (flat_map (λ piece. piece) (take l.piece-index l.pieces));
  passed : Appends (g.S.Sink.passed l.initial.sink) (g.S.Sink.passed l.sink) (flat_map (λ piece. piece) (take l.piece-index l.pieces));
  never_falls : g.S.Sink.faults l.initial.sink ≤ g.S.Sink.faults l.sink;
}
