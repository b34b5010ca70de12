use Rattle.std.proofs.Common.{true, sym, subst, ◌≡◌}
use Rattle.dns_data.specs.Name.{Labels, is_prefix}
use Rattle.zone_lookup.specs.LentCut.{cut_of}
use Rattle.zone_lookup.proofs.Glue.{held_origin, further_below}
use Rattle.zone_lookup.proofs.hosts.Hosts.has_glue.Goals as goal

pub has_address-requires : goal.has_address-requires
has_address-requires c =
    let cut = cut_of c.args.cut in
    subst (λ (origin : Labels). is_prefix origin cut.ns ≡ true)
    (sym (held_origin c.args.self.now cut.server cut.zone c.in-Some.tree.now.zone (sym c.in-Some.ensures)))
    (further_below cut.zone cut.cut cut.ns c.requires (sym c.if-not-is_prefix_of.ensures.value))
