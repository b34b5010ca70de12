use Rattle.std.proofs.Common.{◌≡◌, map, take}
use Rattle.zone_tree.proofs.answers.copied_names.Given as goal

-- copies of the names so far
abbrev pub invariant-loop-name : goal.invariant-loop-name
invariant-loop-name l = l.copies ≡ map (λ name. name.now) (take l.name-index l.names)
