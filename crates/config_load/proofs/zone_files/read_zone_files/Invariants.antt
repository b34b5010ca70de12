use Rattle.std.proofs.Common.{◌+◌, ◌-◌, length}
use Rattle.config_load.specs.Conf.{zone_files}
use Rattle.config_load.specs.Sources.{ReadsFor}
use Rattle.config_load.proofs.OpenedFiles.{HasFedFiles}
use Rattle.config_load.proofs.zone_files.read_zone_files.Given as goal

-- the files with these names were fed to the reader, and no other file was read
abbrev pub invariant-loop-asked : goal.invariant-loop-asked
invariant-loop-asked g l = record {
  fed : HasFedFiles l.meta l.row l.fn.left (g.F.Files.told l.files) l.names l.asked l.reader;
  source : ReadsFor (g.F.Files.told l.fn.files) (g.F.Files.told l.files) (g.F.Files.faults l.fn.files) (g.F.Files.faults l.files) (zone_files l.meta l.row l.fn.left);
}

-- how many files may still be opened
abbrev pub decreases-loop-asked : goal.decreases-loop-asked
decreases-loop-asked g l = l.fn.left.includes + 1 - length l.names
