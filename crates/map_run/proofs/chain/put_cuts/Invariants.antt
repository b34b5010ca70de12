-- So far there are the lines of the zone cuts among the first names.
use Rattle.std.proofs.Common.{◌≡◌, ◌++◌, take}
use Rattle.std.specs.List.{flat_map}
use Rattle.zone_cuts.specs.Cuts.{is_cut}
use Rattle.map_run.specs.Chain.{cut_lines}
use Rattle.map_run.specs.Lines.{if_so}
use Rattle.map_run.proofs.chain.put_cuts.Given as goal

abbrev pub invariant-loop-name : goal.invariant-loop-name
invariant-loop-name l =
    l.lines ≡ l.fn.lines ++ flat_map (λ name. if_so (is_cut l.at.zone name) (cut_lines l.all l.at.row l.at.zone name)) (take l.name-index l.name-items)
