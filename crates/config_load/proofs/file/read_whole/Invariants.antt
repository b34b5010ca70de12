use Rattle.std.proofs.Common.{◌≡◌, ◌+◌, ◌≤◌, ◌-◌, vec_len}
use Rattle.io_edges.specs.Files.{first_told}
use Rattle.config_load.specs.Sources.{ReadsOnly}
use Rattle.config_load.proofs.file.read_whole.Given as goal

-- what was read are the first octets that are told
abbrev pub invariant-loop-piece : goal.invariant-loop-piece
invariant-loop-piece g l = record {
  front : l.octets.items ≡ first_told (g.F.Files.told l.files l.name) (vec_len l.octets);
  short : vec_len l.octets ≤ l.most + 1;
  only : ReadsOnly l.name (g.F.Files.told l.fn.files) (g.F.Files.told l.files) (g.F.Files.faults l.fn.files) (g.F.Files.faults l.files);
}

abbrev pub decreases-loop-piece : goal.decreases-loop-piece
decreases-loop-piece g l = l.most + 1 - vec_len l.octets
