use Rattle.std.proofs.Common.{◌≡◌, ◌+◌, map, drop}
use Rattle.groot_run.specs.NameList.{names_from}
use Rattle.groot_run.proofs.NameLists.{continued}
use Rattle.groot_run.proofs.name_list.names_from.Given as goal

-- the names so far, and then those of the lines that are left
abbrev pub invariant-loop-i : goal.invariant-loop-i
invariant-loop-i l =
    names_from 1 (map (λ line. line.now) l.lines) ≡ continued l.names (names_from (l.i + 1) (map (λ line. line.now) (drop l.i l.lines)))
