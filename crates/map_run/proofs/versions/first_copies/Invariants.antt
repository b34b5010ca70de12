-- So far there are those of the first rows that are no copies, and it is known of which zones there are equal copies.
use Rattle.std.proofs.Common.{◌≡◌, map, take}
use Rattle.map_run.specs.Copies.{first_copies}
use Rattle.map_run.specs.FirstCopies.{KnowsCopies}
use Rattle.map_run.proofs.versions.first_copies.Given as goal

abbrev pub invariant-loop-row : goal.invariant-loop-row
invariant-loop-row l = record {
  firsts : map (λ row. row.now) l.firsts ≡ first_copies l.hosts (map (λ row. row.now) (take l.row-index l.rows));
  known : KnowsCopies l.hosts (map (λ row. row.now) (take l.row-index l.rows)) l.known;
}
