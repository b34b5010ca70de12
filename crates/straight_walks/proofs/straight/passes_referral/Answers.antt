use Rattle.std.proofs.Common.{◌≡◌, ℕ, ◌<◌, List, length, get_or, Option, Bor, IfSome, refl, subst}
use Rattle.std.specs.List.{slice_get}
use Rattle.std.proofs.lemmas.Option.{slice_get_read}
use Rattle.dns_data.specs.Name.{Labels}
use Rattle.net_model.specs.declared.config.Config.{Config}
use Rattle.zone_tree.specs.Tree.{ZoneTree}
use Rattle.zone_lookup.specs.Reply.{IsReply}
use Rattle.zone_lookup.specs.declared.reply.Reply.TheVariants as reply
use Rattle.straight_walks.specs.declared.queue.Queued.{Queued}
use Rattle.straight_walks.proofs.Replies.{refers_above, refers_held, refers_inside}
use Rattle.std.proofs.lemmas.Result.{IfOk-weaker}
use Rattle.straight_walks.proofs.NamesBelow.{referral_passed_for}
use Rattle.straight_walks.proofs.straight.passes_referral.Goals as goal

-- the state's server refers the query
refers : (config : Config) (query : Labels) (queue : List Queued) (place : ℕ) (item : Queued) (tree : Bor ZoneTree) (cut : ℕ) → place < length queue → item ≡ get_or queue place item
    → IfSome (slice_get queue place) (λ one. IsReply config one.server.now query (reply.Refers tree cut)) → IsReply config item.server.now query (reply.Refers tree cut)
refers config query queue place item tree cut within is so =
    subst (λ (found : Option Queued). IfSome found (λ one. IsReply config one.server.now query (reply.Refers tree cut))) (slice_get_read queue (length queue) place item refl within is) so

pub queue_referrals-requires-clause-inside : goal.queue_referrals-requires-clause-inside
queue_referrals-requires-clause-inside c =
    let item = c.index-as_slice-place.result in
    refers_inside c.args.asked.hosts.now c.args.asked.name.now item.server.now c.args.tree c.args.cut
    (refers c.args.asked.hosts.now c.args.asked.name.now c.args.queue.now c.args.place item c.args.tree c.args.cut c.requires.within (subst (λ (all : List Queued). item ≡ get_or all c.args.place item) c.as_slice.ensures c.index-as_slice-place.is) c.requires.refers)

pub queue_referrals-requires-clause-above : goal.queue_referrals-requires-clause-above
queue_referrals-requires-clause-above c =
    let item = c.index-as_slice-place.result in
    refers_above c.args.asked.hosts.now c.args.asked.name.now item.server.now c.args.tree c.args.cut
    (refers c.args.asked.hosts.now c.args.asked.name.now c.args.queue.now c.args.place item c.args.tree c.args.cut c.requires.within (subst (λ (all : List Queued). item ≡ get_or all c.args.place item) c.as_slice.ensures c.index-as_slice-place.is) c.requires.refers)

pub queue_referrals-requires-clause-held : goal.queue_referrals-requires-clause-held
queue_referrals-requires-clause-held c =
    let item = c.index-as_slice-place.result in
    refers_held c.args.asked.hosts.now c.args.asked.name.now item.server.now c.args.tree c.args.cut
    (refers c.args.asked.hosts.now c.args.asked.name.now c.args.queue.now c.args.place item c.args.tree c.args.cut c.requires.within (subst (λ (all : List Queued). item ≡ get_or all c.args.place item) c.as_slice.ensures c.index-as_slice-place.is) c.requires.refers)

pub returns : goal.returns
returns c =
    let item = c.index-as_slice-place.result in
    IfOk-weaker c.queue_referrals.result _ _
    (λ straight so is.
    referral_passed_for c.args.asked.hosts.now c.args.asked.sets.now c.args.asked.name.now c.args.queue.now c.queue_referrals.new.queue c.args.place c.args.ends.now
    c.queue_referrals.new.fails c.queue_referrals.new.faulty c.args.tree c.args.cut item c.requires.within (subst (λ (all : List Queued). item ≡ get_or all c.args.place item) c.as_slice.ensures c.index-as_slice-place.is) c.requires.refers c.requires.passed (so is))
    c.queue_referrals.ensures
