use Rattle.std.proofs.Common.{◌<◌, ◌+◌, List, IfSome, length, sym, ◌∙◌, subst}
use Rattle.std.specs.List.{slice_get}
use Rattle.zone_lookup.specs.Reply.{IsReply}
use Rattle.straight_walks.specs.Searching.{HavePassed, unanswered}
use Rattle.straight_walks.specs.declared.queue.Queued.{Queued}
use Rattle.zone_lookup.specs.declared.reply.Reply.TheVariants as reply
use Rattle.straight_walks.proofs.NamesBelow.{begun}
use Rattle.straight_walks.proofs.StraightSearch.{given_within}
use Rattle.straight_walks.proofs.straight.ends_from.Goals as goal

pub passes_referral-requires-clause-within : goal.passes_referral-requires-clause-within
passes_referral-requires-clause-within c =
    subst (λ (all : List Queued). c.in-Refers.passed < length all) (sym (c.of-queue.ensures ∙ c.in_ok-from_slice-in-Refers.ensures.items)) c.in-Refers.ensures.1

pub passes_referral-requires-clause-refers : goal.passes_referral-requires-clause-refers
passes_referral-requires-clause-refers c =
    subst (λ (all : List Queued). IfSome (slice_get all c.in-Refers.passed)
    (λ one. IsReply c.args.asked.hosts.now one.server.now c.args.asked.name.now (reply.Refers c.in-Refers.tree c.in-Refers.cut))) (sym (c.of-queue.ensures ∙ c.in_ok-from_slice-in-Refers.ensures.items))
    c.in-Refers.ensures.2

pub passes_referral-requires-clause-passed : goal.passes_referral-requires-clause-passed
passes_referral-requires-clause-passed c =
    subst (λ (all : List Queued). HavePassed c.args.asked.hosts.now c.args.asked.sets.now c.args.asked.name.now all c.in-Refers.passed c.next_referral.new.ends)
    (sym (c.of-queue.ensures ∙ c.in_ok-from_slice-in-Refers.ensures.items))
    (c.in-Refers.ensures.3 c.args.asked.sets.now
    (subst (λ (all : List Queued). HavePassed c.args.asked.hosts.now c.args.asked.sets.now c.args.asked.name.now all c.args.searched.now.passed (record (unanswered c.args.searched.now.fails c.in_ok-from_slice.field-0) { blackholes = c.new.result; alias_faults = c.new-2.result }))
    (sym c.as_slice-queue.ensures.value)
    (begun c.args.asked.hosts.now c.args.asked.sets.now c.args.asked.name.now c.args.searched.now c.in_ok-from_slice.field-0 (c.in_ok-from_slice.ensures.items ∙ c.as_slice.ensures.value) c.new.result c.new.ensures c.new-2.result c.new-2.ensures c.requires.searched)))

pub all_ends-requires-clause-passed : goal.all_ends-requires-clause-passed
all_ends-requires-clause-passed c = c.in_ok-passes_referral-in-Refers.ensures c.if-not-branch.false

pub returns-in-Ends : goal.returns-in-Ends
returns-in-Ends c =
    let config = c.args.asked.hosts.now in
    let deps = c.args.asked.sets.now in
    let query = c.args.asked.name.now in
    given_within config deps query c.args.limits.rewrites c.args.limits.states (c.args.limits.states + length config.tops) (length c.as_slice-queue.result.now) c.next_referral.new.ends c.ends_within.result c.ends_within.ensures.same c.ends_within.ensures.few c.ends_within.ensures.rewrites c.ends_within.ensures.limits
    (λ fewer limits few. c.in-Ends.ensures deps
    (subst (λ (all : List Queued). HavePassed config deps query all c.args.searched.now.passed (record (unanswered c.args.searched.now.fails c.in_ok-from_slice.field-0) { blackholes = c.new.result; alias_faults = c.new-2.result })) (sym c.as_slice-queue.ensures.value)
    (begun config deps query c.args.searched.now c.in_ok-from_slice.field-0 (c.in_ok-from_slice.ensures.items ∙ c.as_slice.ensures.value) c.new.result c.new.ensures c.new-2.result c.new-2.ensures c.requires.searched))
    c.args.limits.rewrites c.args.limits.states fewer limits few)
