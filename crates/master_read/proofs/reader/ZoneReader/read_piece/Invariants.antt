-- So much of the piece was read.
use Rattle.std.proofs.Common.{length}
use Rattle.master_read.proofs.Parts.{HasReadPart}
use Rattle.master_read.proofs.reader.ZoneReader.read_piece.Given as goal

abbrev pub invariant-loop-rest : goal.invariant-loop-rest
invariant-loop-rest l = HasReadPart l.initial.self l.self l.piece l.rest

abbrev pub decreases-loop-rest : goal.decreases-loop-rest
decreases-loop-rest l = length l.rest
