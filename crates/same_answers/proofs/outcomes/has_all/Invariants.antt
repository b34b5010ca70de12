use Rattle.std.proofs.Common.{◌≡◌, true, map, take, Bor}
use Rattle.std.specs.List.{list_all}
use Rattle.net_model.specs.declared.walk.Leaf.{Leaf}
use Rattle.same_answers.specs.Outcomes.{has_outcome}
use Rattle.same_answers.proofs.outcomes.has_all.Given as goal

-- those of all so far
abbrev pub invariant-loop-leaf : goal.invariant-loop-leaf
invariant-loop-leaf l = list_all (has_outcome l.known) (map (λ (end : Bor Leaf). end.now) (take l.leaf-index l.some)) ≡ true
