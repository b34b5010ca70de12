use Rattle.std.proofs.Common.{◌≡◌, true, take}
use Rattle.std.specs.List.{AllByRecursion}
use Rattle.zone_lookup.specs.CutFlags.{is_quiet}
use Rattle.zone_lookup.proofs.zone_cuts.are_quiet.Given as goal

-- those so far are quiet
abbrev pub invariant-loop-one : goal.invariant-loop-one
invariant-loop-one l = AllByRecursion (λ one. is_quiet one ≡ true) (take l.one-index l.flags)
