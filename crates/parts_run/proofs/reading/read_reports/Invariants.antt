use Rattle.std.proofs.Common.{[], drop, map}
use Rattle.config_load.specs.Follows.{Follows}
use Rattle.config_load.specs.Sources.{ReadsFor}
use Rattle.part_form.specs.Stated.{part_of}
use Rattle.parts_run.specs.Reading.{reports_read}
use Rattle.parts_run.proofs.reading.read_reports.Given as goal

-- the files so far were read, and the others follow
abbrev pub invariant-loop-name : goal.invariant-loop-name
invariant-loop-name g l = record {
  so_far : Follows (g.F.Files.told l.files) (reports_read [] l.names) (reports_read (map part_of l.parts) (drop l.name-index l.names));
  source : ReadsFor (g.F.Files.told l.fn.files) (g.F.Files.told l.files) (g.F.Files.faults l.fn.files) (g.F.Files.faults l.files) (reports_read [] l.names);
}
