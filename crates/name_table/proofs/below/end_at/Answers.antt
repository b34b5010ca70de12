use Rattle.std.proofs.Common.{arith}
use Rattle.dns_data.proofs.NameFronts.{begins_itself}
use Rattle.name_table.specs.Table.{name_at}
use Rattle.name_table.proofs.below.end_at.Goals as goal

pub loop-high-init : goal.loop-high-init
loop-high-init c = record {
  from = omega arith;
  rising = c.requires.within;
  within = omega arith;
  moves = omega arith;
  inside = begins_itself (name_at c.args.names.now c.args.place);
  outside = λ past. absurd (omega (arith, past));
}
