use Rattle.std.proofs.Common.{◌≡◌, ◌+◌, drop}
use Rattle.std.specs.Prelude.{sum_by}
use Rattle.part_form.proofs.merging.all_names.Given as goal

-- the sum so far, and that of those that are left
abbrev pub invariant-loop-part : goal.invariant-loop-part
invariant-loop-part l = l.sum + sum_by (λ part. part.names) (drop l.part-index l.parts) ≡ sum_by (λ part. part.names) l.parts
