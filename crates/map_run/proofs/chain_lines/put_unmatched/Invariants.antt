-- So far there are the lines of the first signers.
use Rattle.std.proofs.Common.{◌≡◌, ◌++◌, map, take}
use Rattle.map_run.specs.Chain.{unmatched_line}
use Rattle.map_run.proofs.chain_lines.put_unmatched.Given as goal

abbrev pub invariant-loop-one : goal.invariant-loop-one
invariant-loop-one l = l.lines ≡ l.fn.lines ++ map (unmatched_line l.at l.child) (map (λ one. one.now) (take l.one-index l.others))
