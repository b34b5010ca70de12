use Rattle.std.proofs.Common.{◌≡◌, ◌++◌, take}
use Rattle.base_names.proofs.base.put_copies.Given as goal

-- the names passed
abbrev pub invariant-loop-name : goal.invariant-loop-name
invariant-loop-name l = l.names.items ≡ l.initial.names.items ++ take l.name-index l.more
