use Rattle.std.proofs.Common.{◌∙◌}
use Rattle.class_judge.proofs.judge.Judge.new.Goals as goal

pub invariant_of-result : goal.invariant_of-result
invariant_of-result g c = record { queries_are = c.new-names.ensures ∙ c.requires.queries_are; covering = c.requires.covering }
