use Rattle.part_form.proofs.ReadBack.{part_reads_back}
use Rattle.part_form.proofs.laws.parts_read_back.Goals as goal

pub returns : goal.returns
returns c = λ part readable. part_reads_back part readable
