use Rattle.part_laws.proofs.ClassesAlike.{class_alike, representative_alike, representative_local}
use Rattle.part_laws.proofs.NamesAlike.{named_alike, named_local}
use Rattle.part_laws.proofs.laws.part_classes.Goals as goal

pub returns : goal.returns
returns c =
    record {
      named = λ config names part name local. named_alike config names part name local;
      local = λ config names part name named. named_local config names part name named;
      class = λ config names part name class local. class_alike config names part name class local;
      representative = λ config names part class name local. representative_alike config names part class name local;
      representative_local = λ config names part class name local stands. representative_local config names part class name local stands;
    }
