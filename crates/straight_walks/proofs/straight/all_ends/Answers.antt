use Rattle.std.proofs.Common.{◌≡◌, ℕ, ◌+◌, ◌*◌, ◌≤◌, List, length, subst, arith}
use Rattle.straight_walks.specs.Searching.{IsNextReferral}
use Rattle.straight_walks.specs.declared.queue.Queued.{Queued}
use Rattle.straight_walks.specs.declared.referring.NextReferral.TheVariants as referring
use Rattle.straight_walks.proofs.StraightSearch.{given_within}
use Rattle.straight_walks.proofs.straight.all_ends.Goals as goal

pub passes_referral-requires-clause-within : goal.passes_referral-requires-clause-within
passes_referral-requires-clause-within c =
    (subst (λ (all : List Queued). IsNextReferral c.args.asked.hosts.now c.args.asked.name.now all c.loop-alloc.passed c.loop-alloc.ends c.next_referral.new.ends
    (referring.Refers c.in-Refers.place c.in-Refers.tree c.in-Refers.cut)) c.as_slice.ensures c.in-Refers.ensures).1

pub passes_referral-requires-clause-refers : goal.passes_referral-requires-clause-refers
passes_referral-requires-clause-refers c =
    (subst (λ (all : List Queued). IsNextReferral c.args.asked.hosts.now c.args.asked.name.now all c.loop-alloc.passed c.loop-alloc.ends c.next_referral.new.ends
    (referring.Refers c.in-Refers.place c.in-Refers.tree c.in-Refers.cut)) c.as_slice.ensures c.in-Refers.ensures).2

pub passes_referral-requires-clause-passed : goal.passes_referral-requires-clause-passed
passes_referral-requires-clause-passed c =
    (subst (λ (all : List Queued). IsNextReferral c.args.asked.hosts.now c.args.asked.name.now all c.loop-alloc.passed c.loop-alloc.ends c.next_referral.new.ends
    (referring.Refers c.in-Refers.place c.in-Refers.tree c.in-Refers.cut)) c.as_slice.ensures c.in-Refers.ensures).3 c.args.asked.sets.now c.loop-alloc.invariant

pub loop-alloc-preserved : goal.loop-alloc-preserved
loop-alloc-preserved c = c.in_ok-passes_referral-in-Refers.ensures c.if-not-branch.false

pub returns-in-Ends : goal.returns-in-Ends
returns-in-Ends c =
    let config = c.args.asked.hosts.now in
    let deps = c.args.asked.sets.now in
    let query = c.args.asked.name.now in
    let queue = c.loop-alloc.queue in
    let ends_before = c.loop-alloc.ends in
    let ends = c.next_referral.new.ends in
    let all_end = subst (λ (all : List Queued). IsNextReferral config query all c.loop-alloc.passed ends_before ends referring.Ends) c.as_slice.ensures c.in-Ends.ensures in
    let len_is : c.len-in-Ends.result ≡ length queue = omega (arith, c.len-in-Ends.ensures) in
    given_within config deps query c.args.limits.rewrites c.args.limits.states (c.args.limits.states + length config.tops) c.len-in-Ends.result ends c.ends_within.result c.ends_within.ensures.same c.ends_within.ensures.few c.ends_within.ensures.rewrites c.ends_within.ensures.limits
    (λ fewer limits few. all_end deps c.loop-alloc.invariant c.args.limits.rewrites c.args.limits.states fewer limits (subst (λ (n : ℕ). n * (ends.rewrites + 1) ≤ c.args.limits.states) len_is few))
