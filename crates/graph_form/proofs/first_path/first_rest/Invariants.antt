use Rattle.std.proofs.Common.{◌+◌, ◌*◌, length, reverse}
use Rattle.graph_form.specs.FirstPath.{branch_shows}
use Rattle.graph_form.proofs.SearchStates.{IsSearch, unmet}
use Rattle.graph_form.proofs.first_path.first_rest.Given as goal

-- the nodes that were met are barren or stand on the path
abbrev pub invariant-loop-turn : goal.invariant-loop-turn
invariant-loop-turn l = IsSearch (branch_shows l.fault l.walks) l.graph l.rtype l.at (reverse l.path.items) l.met

-- a node that is met counts two, and one that is left one
abbrev pub decreases-loop-turn : goal.decreases-loop-turn
decreases-loop-turn l = 2 * unmet l.met + length l.path.items
