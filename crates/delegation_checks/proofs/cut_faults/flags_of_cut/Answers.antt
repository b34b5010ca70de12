use Rattle.std.proofs.Common.{◌≡◌, Some, Option, List, sym, ap, ◌∙◌, subst}
use Rattle.dns_data.specs.Name.{Labels}
use Rattle.net_model.specs.Nearest.{held_zone}
use Rattle.net_model.specs.declared.config.Zone.{Zone}
use Rattle.zone_tree.specs.Tree.{name_of}
use Rattle.zone_lookup.specs.CutTable.{AreCutFlags, referrals_at, flags_in_table}
use Rattle.zone_lookup.specs.declared.cut_flags.CutFlags.{CutFlags}
use Rattle.zone_lookup.proofs.Glue.{held_origin}
use Rattle.delegation_checks.proofs.cut_faults.flags_of_cut.Goals as goal

pub returns : goal.returns
returns c = λ deps zone table held there.
    let config = c.args.hosts.now in
    let cut = c.args.cut.now in
    let tree = c.in_ok-tree.tree.now in
    let node = c.in_ok-node.node in
    let flags : Option (List CutFlags) = flags_in_table c.args.table.now cut.server tree.zone.origin node in
    let both : Some tree.zone ≡ Some zone = c.in_ok-tree.ensures ∙ held in
    let is_zone : tree.zone ≡ zone = cc in
    let its : held_zone config cut.server tree.zone.origin ≡ Some tree.zone =
    ap (held_zone config cut.server) (held_origin config cut.server cut.zone tree.zone (sym c.in_ok-tree.ensures)) ∙ sym c.in_ok-tree.ensures in
    let says : AreCutFlags config deps (referrals_at cut.server tree.zone (name_of tree node)) flags =
    table.each cut.server tree node its c.flags.ensures.whole c.in_ok-node.ensures.node in
    subst (AreCutFlags config deps (referrals_at cut.server zone cut.cut)) (sym c.flags.ensures.flags)
    (subst (λ (z : Zone). AreCutFlags config deps (referrals_at cut.server z cut.cut) flags) is_zone
    (subst (λ (name : Labels). AreCutFlags config deps (referrals_at cut.server tree.zone name) flags) c.in_ok-node.ensures.name says))
