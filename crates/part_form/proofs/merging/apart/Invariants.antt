use Rattle.std.proofs.Common.{◌≡◌, drop, map, option_map, Some, None}
use Rattle.part_form.specs.Merging.{apart_from}
use Rattle.part_form.specs.Stated.{part_of}
use Rattle.part_form.proofs.merging.apart.Given as goal

-- what is wrong from here on is what is wrong
abbrev pub invariant-loop-i : goal.invariant-loop-i
invariant-loop-i l =
    apart_from l.i l.rewrites (option_map (option_map (λ name. name.now)) l.next) (map part_of (drop l.i l.parts))
    ≡ apart_from 0 l.rewrites (Some None) (map part_of l.parts)
