use Rattle.std.proofs.Common.{◌≡◌, drop, ap, arith}
use Rattle.std.proofs.lemmas.List.{drop_all}
use Rattle.key_chain.specs.Keys.{octet_sum}
use Rattle.key_chain.proofs.OctetSums.{sum_at}
use Rattle.key_chain.proofs.keys.octet_sum.Goals as goal

pub loop-octet-preserved : goal.loop-octet-preserved
loop-octet-preserved c =
    let more = sum_at c.loop-octet.upper c.args.octets.now c.loop-octet.octet-index c.loop-octet-test.true in
    record {
      sum = omega (arith, more, c.weighted-sum.ensures.value, c.loop-octet.invariant.sum);
      within = omega (arith, c.weighted-sum.ensures.within, c.loop-octet.invariant.within);
    }

pub returns-clause-value : goal.returns-clause-value
unfolding octet_sum
returns-clause-value c =
    let none : octet_sum c.loop-octet.upper (drop c.loop-octet.octet-index c.args.octets.now) ≡ 0 =
    ap (octet_sum c.loop-octet.upper) (drop_all c.loop-octet.octet-index c.args.octets.now (omega arith)) in
    omega (arith, none, c.loop-octet.invariant.sum)
