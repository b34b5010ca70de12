use Rattle.std.proofs.Common.{◌≡◌, ◌≤◌, ◌++◌, List, ℕ, length}
use Rattle.std.specs.Io.KnownBytes.{Appends}
use Rattle.run_endings.proofs.output.write_all.Given as goal

-- the sink took and passed on what stands before the rest
abbrev pub invariant-loop-rest : goal.invariant-loop-rest
invariant-loop-rest g l = record {
  front : List ℕ;
  splits : l.fn.text ≡ front ++ l.rest;
  taken : Appends (g.S.Sink.taken l.fn.sink) (g.S.Sink.taken l.sink) front;
  passed : Appends (g.S.Sink.passed l.fn.sink) (g.S.Sink.passed l.sink) front;
  never_falls : g.S.Sink.faults l.fn.sink ≤ g.S.Sink.faults l.sink;
}

abbrev pub decreases-loop-rest : goal.decreases-loop-rest
decreases-loop-rest g l = length l.rest
