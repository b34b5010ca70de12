use Rattle.std.proofs.Common.{◌≡◌, false, not, map, take, take_all, Bor, Option, Some, None, sym, refl, ap, ◌∙◌, subst}
use Rattle.std.specs.Prelude.{is_some, option_map}
use Rattle.std.specs.List.{AllByRecursion}
use Rattle.dns_data.specs.Name.{Labels}
use Rattle.dns_data.proofs.Names.{all_push}
use Rattle.net_model.specs.Zone.{ns_names}
use Rattle.zone_tree.specs.Tree.{name_of}
use Rattle.zone_lookup.specs.CutTable.{AreCutFlags, cut_to, referrals_at, flags_in_table}
use Rattle.straight_walks.specs.Searching.{EndsOutside}
use Rattle.straight_walks.proofs.GoingOn.{one_name_more, referral_at, some_named}
use Rattle.straight_walks.proofs.FlagsByTable.{flags_of_each}
use Rattle.straight_walks.proofs.Unhosted.{same_glue, unhosted_ends}
use Rattle.straight_walks.proofs.referrals.all_end_outside.Goals as goal

-- where there is nothing, there is nothing of it
none_mapped : {A B : Type 0} (f : A → B) (found : Option A) → is_some found ≡ false → option_map f found ≡ None
none_mapped f None none = refl
none_mapped f (Some value) none = cc

pub loop-ns-preserved : goal.loop-ns-preserved
loop-ns-preserved c =
    let config = c.args.asked.hosts.now in
    let sets = c.args.asked.sets.now in
    let server = c.args.from.server.now in
    let tree = c.args.from.tree.now in
    let zone = tree.zone in
    let cut = name_of tree c.args.from.cut in
    let end = EndsOutside config tree c.args.from.cut in
    let servers = c.name_servers-servers.result.now in
    let number = c.loop-ns.ns-index in
    let item = c.ns-item.result in
    let nothing : flags_in_table c.args.asked.table.now server zone.origin c.args.from.cut ≡ None =
    sym c.flags-flags.ensures.flags ∙ none_mapped _ c.flags-flags.result (sym c.is_some.ensures ∙ c.if-is_some.false) in
    let told : AreCutFlags config sets (referrals_at server zone cut) None =
    subst (AreCutFlags config sets (referrals_at server zone cut)) nothing
    (c.requires.table.each server tree c.args.from.cut c.requires.held c.flags-flags.ensures.whole c.requires.node) in
    let at = referral_at server zone cut servers (ns_names zone cut) c.name_servers-servers.ensures number item c.loop-ns-test.true c.ns-item.is in
    let glued = sym (flags_of_each config sets (referrals_at server zone cut) None told number (cut_to server zone cut item.now) at.0 at.1).no_glue in
    let unhosted = sym c.host.ensures ∙ none_mapped _ c.host.result (sym c.is_some-in-loop-ns.ensures ∙ c.if-is_some-2.false) in
    subst (AllByRecursion end) (sym (one_name_more servers number item c.loop-ns-test.true c.ns-item.is))
    (all_push end (map (λ (ns : Bor Labels). ns.now) (take number servers)) item.now c.loop-ns.invariant
    (λ deps query other held. unhosted_ends config deps query (cut_to other zone cut item.now) unhosted
    (same_glue config other server zone cut item.now held c.requires.held ∙ glued)))

pub returns : goal.returns
returns c = λ some.
    let end = EndsOutside c.args.asked.hosts.now c.args.from.tree.now c.args.from.cut in
    let names = ns_names c.args.from.tree.now.zone (name_of c.args.from.tree.now c.args.from.cut) in
    let all : map (λ (ns : Bor Labels). ns.now) (take c.loop-ns.ns-index c.name_servers-servers.result.now) ≡ names =
    ap (map (λ (ns : Bor Labels). ns.now)) (take_all c.loop-ns.ns-index c.name_servers-servers.result.now c.loop-ns-test.false) ∙ c.name_servers-servers.ensures in
    (subst (AllByRecursion end) all c.loop-ns.invariant, some_named c.name_servers-servers.result.now names c.name_servers-servers.ensures (ap not (sym c.is_empty.ensures) ∙ some))
