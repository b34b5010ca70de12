use Rattle.std.proofs.Common.{◌≡◌}
use Rattle.config_load.specs.Conf.{row_skips}
use Rattle.config_load.proofs.LeftRows.{StandSoFar}
use Rattle.config_load.proofs.rows.read_rows.Given as goal

-- the rows so far were read and taken, and the others follow
abbrev pub invariant-loop-i : goal.invariant-loop-i
invariant-loop-i g l = record {
  stand : StandSoFar (row_skips (g.T.ZoneTaker.skips l.fn.taker)) l.meta l.all l.fn.limits (g.F.Files.told l.fn.files) (g.F.Files.told l.files) (g.F.Files.faults l.fn.files) (g.F.Files.faults l.files)
      (g.T.ZoneTaker.left_of l.fn.taker) (g.T.ZoneTaker.took l.fn.taker l.taker) l.i l.rows l.earlier;
  same : g.T.ZoneTaker.left_of l.taker ≡ g.T.ZoneTaker.left_of l.fn.taker;
  same_skips : g.T.ZoneTaker.skips l.taker ≡ g.T.ZoneTaker.skips l.fn.taker;
}
