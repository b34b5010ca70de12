use Rattle.std.proofs.Common.{◌≡◌, drop}
use Rattle.std.specs.Prelude.{option_map}
use Rattle.graph_form.specs.Graph.{path_from}
use Rattle.graph_form.proofs.WalksLed.{behind}
use Rattle.graph_form.proofs.first_walks.walk_from.Given as goal

-- the walk is that of the numbers that are left, behind the states and hops so far
abbrev pub invariant-loop-place : goal.invariant-loop-place
invariant-loop-place l =
    path_from l.graph l.fn.rtype l.numbers l.fn.start
    ≡ option_map (behind l.states l.hops) (path_from l.graph l.fn.rtype (drop l.place l.numbers) l.at)
