use Rattle.std.proofs.Common.{◌≡◌, length, take}
use Rattle.std.specs.List.{flat_map}
use Rattle.site_checks.specs.PathEnds.{AreDone, ends_by, ends_from, left_after}
use Rattle.site_checks.proofs.SearchSteps.{put}
use Rattle.site_checks.proofs.ends.+put_ends_from.Given as goal

-- a path goes on to nodes that fewer come after
abbrev pub decreases-put_ends_from : goal.decreases-put_ends_from
decreases-put_ends_from l = left_after l.graph.now l.at

-- the ends of the branches so far are there
abbrev pub invariant-loop-branch : goal.invariant-loop-branch
invariant-loop-branch l = record {
  room : length l.done ≡ length l.graph.nodes;
  ends : l.ends ≡ put l.fn.ends (flat_map (ends_by (ends_from l.graph l.rtype) l.rtype l.node.state) (take l.branch-index l.branch-items));
  done : AreDone l.graph l.rtype l.done l.ends;
}
