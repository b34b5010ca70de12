use Rattle.std.proofs.Common.{[], refl, sym, inl, inr}
use Rattle.std.proofs.lemmas.List.{append-nil}
use Rattle.straight_walks.proofs.RegionSearch.{outside_past, referral_past}
use Rattle.straight_walks.proofs.region.RegionSearch.look_at.Goals as goal

pub returns-in_ok-push-in-Outside : goal.returns-in_ok-push-in-Outside
returns-in_ok-push-in-Outside c = λ yes.
    let before = c.args.self.now in
    inl (record {
      extends = ([], sym (append-nil before.queue));
      passed = c.in_ok-push-in-Outside.ensures.items;
      answering = refl;
      passes = λ above.
          outside_past c.args.asked.hosts.now c.args.asked.sets.now c.args.asked.name.now c.args.one.server.now before.queue before.fails before.faulty c.in-Outside.ensures;
    })

pub returns-in_ok-push-in-Records : goal.returns-in_ok-push-in-Records
returns-in_ok-push-in-Records c = λ yes.
    inr (record {
      queue = refl;
      passed = refl;
      answering = c.in_ok-push-in-Records.ensures.items;
      fails = refl;
      faulty = refl;
    })

pub returns-in_ok-push-in-Refers : goal.returns-in_ok-push-in-Refers
returns-in_ok-push-in-Refers c = λ yes.
    let before = c.args.self.now in
    let on = c.in_ok-queue_referrals-in-Refers.ensures c.if-not-branch.false in
    inl (record {
      extends = on.extends;
      passed = c.in_ok-push-in-Refers.ensures.items;
      answering = refl;
      passes = referral_past c.args.asked.hosts.now c.args.asked.sets.now c.args.asked.name.now c.args.one.server.now before.queue before.fails before.faulty
          c.queue_referrals.new.queue c.queue_referrals.new.fails c.queue_referrals.new.faulty c.in-Refers.tree c.in-Refers.cut c.in-Refers.ensures on;
    })
