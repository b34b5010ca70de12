use Rattle.std.proofs.Common.{◌≡◌, map, take}
use Rattle.std.specs.List.{AllByRecursion}
use Rattle.interp_graph.specs.Steps.{IsFork, types_of}
use Rattle.interp_graph.proofs.forks.forks_by.Given as goal

-- the sets so far have their forks
abbrev pub invariant-loop-at : goal.invariant-loop-at
invariant-loop-at l = record {
  sets : map types_of l.forks ≡ take l.at l.sets;
  tell : AllByRecursion (IsFork l.walker l.state) l.forks;
}
