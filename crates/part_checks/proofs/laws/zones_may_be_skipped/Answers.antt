use Rattle.part_checks.proofs.SkippedZones.{keeps_read, keeps_whole, left_same, own_whole, part_whole}
use Rattle.part_checks.proofs.laws.zones_may_be_skipped.Goals as goal

pub returns : goal.returns
returns c = record {
  left = left_same;
  rules = λ names whole config is rule. (keeps_whole names whole config is rule, keeps_read names whole config is rule);
  part = part_whole;
  own = own_whole;
}
