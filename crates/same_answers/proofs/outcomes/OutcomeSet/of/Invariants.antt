use Rattle.std.proofs.Common.{◌≡◌, map, take, Bor}
use Rattle.std.specs.List.{list_any}
use Rattle.net_model.specs.declared.walk.Leaf.{Leaf}
use Rattle.same_answers.specs.Ends.{outcome_eq}
use Rattle.same_answers.specs.Outcomes.{has_outcome}
use Rattle.same_answers.proofs.outcomes.OutcomeSet.of.Given as goal

-- those of the ends so far
abbrev pub invariant-loop-leaf : goal.invariant-loop-leaf
invariant-loop-leaf l = (query : Leaf) → has_outcome l.set query ≡ list_any (outcome_eq query) (map (λ (end : Bor Leaf). end.now) (take l.leaf-index l.ends))
