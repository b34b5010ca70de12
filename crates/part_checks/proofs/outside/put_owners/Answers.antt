use Rattle.std.proofs.Common.{◌≡◌, Some, take, inl, inr}
use Rattle.std.proofs.lemmas.List.Elements.{All-weaker}
use Rattle.dns_data.specs.declared.rdata.Rr.{Rr}
use Rattle.label_graph.proofs.Passing.{some_more, some_all}
use Rattle.part_checks.specs.Outside.{first_outside, IsPassed}
use Rattle.part_checks.proofs.Meets.{first_below}
use Rattle.part_checks.proofs.Passing.{all_more, all_passed, passed_on}
use Rattle.part_checks.proofs.outside.put_owners.Goals as goal

pub put_owner-requires-clause-below : goal.put_owner-requires-clause-below
put_owner-requires-clause-below c = λ name has. elim (c.loop-i.invariant.leaves name has) [
  | inl first ↦ c.requires.below name first
  | inr (rr, among, is) ↦ first_below c.args.sets.now rr.owner name is
]

pub loop-i-preserved : goal.loop-i-preserved
loop-i-preserved c =
    let names = c.args.sets.now in
    let before = c.loop-i.outside in
    let after = c.put_owner.new.outside in
    let rrs = c.args.rrs.now in
    let k = c.loop-i.i in
    let rr = c.index-rrs-i.result in
    record {
      passed = all_more (λ (rr : Rr). IsPassed names after rr.owner) rrs k rr c.loop-i-test.true c.index-rrs-i.is
          (All-weaker (λ (rr : Rr). IsPassed names before rr.owner) (λ (rr : Rr). IsPassed names after rr.owner)
          (λ rr is. passed_on names before after rr.owner c.in_ok-put_owner.ensures.stays is) (take k rrs) c.loop-i.invariant.passed)
          c.in_ok-put_owner.ensures.passed;
      last = c.in_ok-put_owner.ensures.passed;
      stays = λ name has. c.in_ok-put_owner.ensures.stays name (c.loop-i.invariant.stays name has);
      leaves = λ name has. elim (c.in_ok-put_owner.ensures.leaves name has) [
        | inl old ↦ elim (c.loop-i.invariant.leaves name old) [
          | inl first ↦ inl first
          | inr some ↦ inr (some_more (λ (one : Rr). first_outside names one.owner ≡ Some name) rrs k rr c.loop-i-test.true c.index-rrs-i.is (inl some))
        ]
        | inr is ↦ inr (some_more (λ (one : Rr). first_outside names one.owner ≡ Some name) rrs k rr c.loop-i-test.true c.index-rrs-i.is (inr is))
      ];
    }

pub returns-clause-passed : goal.returns-clause-passed
returns-clause-passed c = all_passed (λ (rr : Rr). IsPassed c.args.sets.now c.loop-i.outside rr.owner) c.args.rrs.now c.loop-i.i c.loop-i-test.false c.loop-i.invariant.passed

pub returns-clause-leaves : goal.returns-clause-leaves
returns-clause-leaves c = λ name has. elim (c.loop-i.invariant.leaves name has) [
  | inl first ↦ inl first
  | inr some ↦ inr (some_all (λ (one : Rr). first_outside c.args.sets.now one.owner ≡ Some name) c.args.rrs.now c.loop-i.i c.loop-i-test.false some)
]
