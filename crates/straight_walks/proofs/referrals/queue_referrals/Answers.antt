use Rattle.std.proofs.Common.{◌≡◌, ℕ, true, List, ◌∷◌, [], ◌++◌, length, map, take, take_all, Bor, Option, sym, ap, ◌∙◌, subst}
use Rattle.std.specs.Prelude.{Contains, ◌⊎◌}
use Rattle.dns_data.specs.Name.{Labels, is_prefix}
use Rattle.net_model.specs.Zone.{ns_names}
use Rattle.net_model.specs.declared.config.Zone.{Zone}
use Rattle.net_model.specs.declared.place.Cut.{Cut}
use Rattle.zone_tree.specs.Tree.{name_of}
use Rattle.zone_lookup.specs.CutTable.{AreCutFlags, cut_to, referrals_at, flags_in_table}
use Rattle.zone_lookup.specs.declared.cut_flags.CutFlags.{CutFlags}
use Rattle.straight_walks.specs.Faulty.{AreFlagsBySides, flags_at}
use Rattle.straight_walks.specs.Searching.{AreReferrals, IsFaultyPut, IsReferral, Known, state_at, queued_state}
use Rattle.straight_walks.specs.declared.name_server.Referral.TheVariants as referral
use Rattle.straight_walks.proofs.GoingOn.{no_referrals, one_name_more, one_that_ends, one_to_go_to, referral_at}
use Rattle.straight_walks.proofs.FlagsByTable.{flags_of_each}
use Rattle.straight_walks.proofs.referrals.queue_referrals.Goals as goal
use Rattle.straight_walks.proofs.referrals.queue_referrals.Goals.{in-Ends+in_ok-put_faulty-in-Ends, in-GoesOn+in_ok-put-in-GoesOn+in_ok-put_faulty-in-GoesOn}

pub loop-number-init : goal.loop-number-init
loop-number-init c =
    no_referrals c.args.asked.hosts.now c.args.asked.sets.now c.args.asked.name.now c.args.from.server.now c.args.from.tree.now.zone (name_of c.args.from.tree.now c.args.from.cut)
    (record { queue = c.args.queue.now; fails = c.args.fails.now; faulty = c.args.faulty.now.items })

pub referral_to-requires-clause-inside : goal.referral_to-requires-clause-inside
referral_to-requires-clause-inside c =
    subst (λ (zone : Zone). is_prefix zone.origin c.name-owner.result.now ≡ true) (sym c.zone.ensures.zone)
    (subst (λ (name : Labels). is_prefix c.args.from.tree.now.zone.origin name ≡ true) (sym c.name-owner.ensures) c.requires.inside)

pub referral_to-requires-clause-flags : goal.referral_to-requires-clause-flags
referral_to-requires-clause-flags c =
    let config = c.args.asked.hosts.now in
    let deps = c.args.asked.sets.now in
    let server = c.args.from.server.now in
    let tree = c.args.from.tree.now in
    let zone = tree.zone in
    let cut = name_of tree c.args.from.cut in
    let item = c.index-servers-number.result in
    let lent : cut_to server c.zone.result.now c.name-owner.result.now item.now ≡ cut_to server zone cut item.now =
    ap (λ (z : Zone). cut_to server z c.name-owner.result.now item.now) c.zone.ensures.zone ∙ ap (λ (name : Labels). cut_to server zone name item.now) c.name-owner.ensures in
    let shown = flags_in_table c.args.asked.table.now server zone.origin c.args.from.cut in
    let told : AreCutFlags config deps (referrals_at server zone cut) shown = c.requires.table.each server tree c.args.from.cut c.requires.held c.flags-shown.ensures.whole c.requires.node in
    let at = referral_at server zone cut c.name_servers-servers.result.now (ns_names zone cut) c.name_servers-servers.ensures c.loop-number.number item c.loop-number-test.true c.index-servers-number.is in
    subst (λ (flags : CutFlags). AreFlagsBySides config (cut_to server c.zone.result.now c.name-owner.result.now item.now) flags) (sym (c.flags_at.ensures ∙ ap (λ (s : Option (List CutFlags)). flags_at s c.loop-number.number) c.flags-shown.ensures.flags))
    (subst (λ (to : Cut). AreFlagsBySides config to (flags_at shown c.loop-number.number)) (sym lent)
    (flags_of_each config deps (referrals_at server zone cut) shown told c.loop-number.number (cut_to server zone cut item.now) at.0 at.1))

pub loop-number-preserved : goal.loop-number-preserved
loop-number-preserved c =
    let config = c.args.asked.hosts.now in
    let deps = c.args.asked.sets.now in
    let query = c.args.asked.name.now in
    let server = c.args.from.server.now in
    let zone = c.args.from.tree.now.zone in
    let cut = name_of c.args.from.tree.now c.args.from.cut in
    let first : Known = record { queue = c.args.queue.now; fails = c.args.fails.now; faulty = c.args.faulty.now.items } in
    let before : Known = record { queue = c.loop-number.queue; fails = c.loop-number.fails; faulty = c.loop-number.faulty.items } in
    let item = c.index-servers-number.result in
    let lent = ap (λ (z : Zone). cut_to server z c.name-owner.result.now item.now) c.zone.ensures.zone ∙ ap (λ (name : Labels). cut_to server zone name item.now) c.name-owner.ensures in
    let names = map (λ (ns : Bor Labels). ns.now) (take c.loop-number.number c.name_servers-servers.result.now) in
    let Now : Known → Type 0 = AreReferrals config deps query server zone cut (names ++ item.now ∷ []) first in
    subst (λ (all : List Labels). AreReferrals config deps query server zone cut all first
    (record { queue = c.match-referral_to.queue; fails = c.match-referral_to.fails; faulty = c.match-referral_to.faulty.items }))
    (sym (one_name_more c.name_servers-servers.result.now c.loop-number.number item c.loop-number-test.true c.index-servers-number.is))
    (elim c.match-referral_to.branch [
      | in-Ends+in_ok-put_faulty-in-Ends w ↦
          subst Now (λ i. record { queue = sym w.queue-is i; fails = sym w.fails-is i; faulty = (sym w.faulty-is i).items })
          (one_that_ends config deps query server zone cut names item.now first before c.loop-number.invariant w.in-Ends.flags w.put_faulty.new.faulty.items c.requires.above
          (subst (λ (name : Labels). IsFaultyPut server zone name item.now w.in-Ends.flags c.loop-number.faulty.items w.put_faulty.new.faulty.items) c.name-owner.ensures w.in_ok-put_faulty-in-Ends.ensures)
          (subst (λ (to : Cut). IsReferral config deps query to (referral.Ends w.in-Ends.flags)) lent (subst (IsReferral config deps query _) w.in-Ends.is c.referral_to.ensures)))
      | in-GoesOn+in_ok-put-in-GoesOn+in_ok-put_faulty-in-GoesOn w ↦
          subst Now (λ i. record { queue = sym w.queue-is i; fails = sym w.fails-is i; faulty = (sym w.faulty-is i).items })
          (one_to_go_to config deps query server zone cut names item.now first before c.loop-number.invariant w.in-GoesOn.flags w.put.new.self w.put_faulty-in-GoesOn.new.faulty.items
          c.requires.above
          (subst (λ (name : Labels). IsFaultyPut server zone name item.now w.in-GoesOn.flags c.loop-number.faulty.items w.put_faulty-in-GoesOn.new.faulty.items) c.name-owner.ensures
          w.in_ok-put_faulty-in-GoesOn.ensures)
          w.in_ok-put-in-GoesOn.ensures.more
          (subst (λ (n : ℕ). Contains (map (queued_state config query) w.put.new.self) (state_at config query item.now n))
          (w.len.ensures.value ∙ ap (λ (name : Labels). length name) c.name-owner.ensures) (w.in_ok-put-in-GoesOn.ensures.there config query))
          (λ one has. subst (λ (n : ℕ). Contains c.loop-number.queue one ⊎ ((one.server.now ≡ item.now) × (one.cut ≡ n)))
          (w.len.ensures.value ∙ ap (λ (name : Labels). length name) c.name-owner.ensures) (w.in_ok-put-in-GoesOn.ensures.only one has))
          (subst (λ (to : Cut). IsReferral config deps query to (referral.GoesOn w.in-GoesOn.flags)) lent (subst (IsReferral config deps query _) w.in-GoesOn.is c.referral_to.ensures)))
    ])

pub returns : goal.returns
returns c = λ yes.
    let zone = c.args.from.tree.now.zone in
    let cut = name_of c.args.from.tree.now c.args.from.cut in
    let all : map (λ (ns : Bor Labels). ns.now) (take c.loop-number.number c.name_servers-servers.result.now) ≡ ns_names zone cut =
    ap (map (λ (ns : Bor Labels). ns.now)) (take_all c.loop-number.number c.name_servers-servers.result.now c.loop-number-test.false) ∙ c.name_servers-servers.ensures in
    subst (λ (names : List Labels). AreReferrals c.args.asked.hosts.now c.args.asked.sets.now c.args.asked.name.now c.args.from.server.now zone cut names
    (record { queue = c.args.queue.now; fails = c.args.fails.now; faulty = c.args.faulty.now.items })
    (record { queue = c.loop-number.queue; fails = c.loop-number.fails; faulty = c.loop-number.faulty.items })) all c.loop-number.invariant
