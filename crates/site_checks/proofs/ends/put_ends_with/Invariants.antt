use Rattle.std.proofs.Common.{◌≡◌, length, take}
use Rattle.std.specs.List.{flat_map}
use Rattle.site_checks.specs.PathEnds.{AreDone, ends_from}
use Rattle.site_checks.proofs.SearchSteps.{put}
use Rattle.site_checks.proofs.ends.put_ends_with.Given as goal

-- the ends of the paths from the starts so far are there
abbrev pub invariant-loop-at : goal.invariant-loop-at
invariant-loop-at l = record {
  room : length l.done ≡ length l.graph.nodes;
  ends : l.ends ≡ put l.fn.ends (flat_map (ends_from l.graph l.rtype) (take l.at-index l.at-items));
  done : AreDone l.graph l.rtype l.done l.ends;
}
