use Rattle.std.proofs.Common.{◌≡◌, true, length, ap, subst, arith}
use Rattle.std.proofs.lemmas.List.{length-append}
use Rattle.dns_data.specs.Name.{Labels}
use Rattle.dns_data.proofs.NameFronts.{front_is_take}
use Rattle.part_checks.specs.Marks.{is_marked}
use Rattle.part_checks.proofs.marks.NameMarks.put_fronts.Goals as goal

pub returns-clause-marked : goal.returns-clause-marked
returns-clause-marked c = λ above below is.
    subst (λ (n : Labels). is_marked c.loop-count.self n ≡ true) (front_is_take above below c.args.name.now is)
    (c.loop-count.invariant.marked (length above) (omega (
      arith,
      c.loop-count-test.false,
      c.loop-count.auto.count-end,
      c.len.ensures.value,
      length-append above below,
      ap (λ (n : Labels). length n) is,
    )))
