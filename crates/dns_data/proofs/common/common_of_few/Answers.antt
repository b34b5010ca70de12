use Rattle.std.proofs.Common.{arith}
use Rattle.std.specs.Prelude.{nat_eq}
use Rattle.std.proofs.lemmas.List.Sums.{common_prefix_len-le}
use Rattle.dns_data.proofs.CommonOctets.{one_more, no_more}
use Rattle.dns_data.proofs.common.common_of_few.Goals as goal

pub loop-passed-preserved : goal.loop-passed-preserved
loop-passed-preserved c =
    one_more c.args.left.now c.args.right.now _ c.loop-passed.invariant (omega arith) (omega arith) (grind arith)

pub returns-else-left-passed : goal.returns-else-left-passed
returns-else-left-passed c =
    no_more c.args.left.now c.args.right.now _ c.loop-passed.invariant (omega arith) (omega arith) (λ e. grind arith)

pub returns-after-loop-passed : goal.returns-after-loop-passed
returns-after-loop-passed c =
    let most = common_prefix_len-le nat_eq c.args.left.now c.args.right.now in
    let least = c.loop-passed.invariant in
    omega (arith, most, least)
