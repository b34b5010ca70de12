use Rattle.std.proofs.Common.{◌≡◌, ◌+◌, ◌≤◌, ◌-◌, false, length, []}
use Rattle.io_edges.specs.Files.{first_told}
use Rattle.config_load.specs.Fed.{IsFed}
use Rattle.config_load.specs.Sources.{ReadsOnly}
use Rattle.config_load.proofs.file.feed_whole.Given as goal

-- what was fed are the first octets that are told
abbrev pub invariant-loop-at : goal.invariant-loop-at
invariant-loop-at g l = record {
  long : length (first_told (g.F.Files.told l.files l.name) l.at) ≡ l.at;
  short : l.at ≤ l.most + 1;
  still_open : l.reader.ended ≡ false;
  fed : l.reader.fed ≡ l.at;
  stands : IsFed l.fn.reader [] l.reader (first_told (g.F.Files.told l.files l.name) l.at);
  only : ReadsOnly l.name (g.F.Files.told l.fn.files) (g.F.Files.told l.files) (g.F.Files.faults l.fn.files) (g.F.Files.faults l.files);
}

abbrev pub decreases-loop-at : goal.decreases-loop-at
decreases-loop-at g l = l.most + 1 - l.at
