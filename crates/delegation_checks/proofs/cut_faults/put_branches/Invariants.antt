use Rattle.std.proofs.Common.{◌≡◌, ◌++◌, take}
use Rattle.std.specs.List.{AllZip, flat_map}
use Rattle.net_model.specs.declared.config.Config.{Config}
use Rattle.net_model.specs.declared.deps.Deps.{Deps}
use Rattle.delegation_checks.specs.Referrals.{IsFlagged, typed_faults}
use Rattle.delegation_checks.proofs.cut_faults.put_branches.Given as goal

-- those of the branches so far
abbrev pub invariant-loop-place : goal.invariant-loop-place
invariant-loop-place l =
    (config : Config) (deps : Deps) → AllZip (IsFlagged config deps) l.branches l.all_flags
    → l.seen ≡ l.fn.seen ++ flat_map (typed_faults config deps l.fn.rtype) (take l.place l.branches)
