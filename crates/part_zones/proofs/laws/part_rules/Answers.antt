use Rattle.part_zones.proofs.Rules.{rules_left, rules_whole}
use Rattle.part_zones.proofs.laws.part_rules.Goals as goal

pub returns : goal.returns
returns c =
    record {
      left = λ zone names keeps held. rules_left zone names keeps held;
      whole = λ zone at_origin at_owners. rules_whole zone at_origin at_owners;
    }
