use Rattle.std.proofs.Common.{arith}
use Rattle.dns_data.proofs.CommonLabels.{more, more_fits, few_passed, past_end}
use Rattle.dns_data.proofs.Encodings.{few_labels}
use Rattle.dns_data.proofs.labels.past_common.Goals as goal
use Rattle.dns_data.proofs.labels.past_common.Goals.{then-loop-common-test+else-left-common, else-loop-common-test}

pub split_at-requires : goal.split_at-requires
split_at-requires c = (more_fits _ _ _ _ _ _ c.loop-common.invariant (omega arith)).0

pub split_at-requires-in-loop-common : goal.split_at-requires-in-loop-common
split_at-requires-in-loop-common c = (more_fits _ _ _ _ _ _ c.loop-common.invariant (omega arith)).1

pub overflow_add-count : goal.overflow_add-count
overflow_add-count c =
    omega (arith, few_passed _ _ _ _ _ _ (more _ _ _ _ _ _ c.loop-common.invariant (omega arith)), few_labels _ c.requires.left)

pub loop-common-preserved : goal.loop-common-preserved
loop-common-preserved c =
    rw (c.split_at.ensures.back, c.split_at-in-loop-common.ensures.back) (more _ _ _ _ _ _ c.loop-common.invariant (omega arith))

pub returns-clause-none : goal.returns-clause-none
returns-clause-none c = elim c.loop-common-test.branch [
  | then-loop-common-test+else-left-common w ↦ past_end _ _ _ _ _ _ c.loop-common.invariant (λ some. omega arith)
  | else-loop-common-test w ↦ past_end _ _ _ _ _ _ c.loop-common.invariant (λ some. omega arith)
]
