use Rattle.std.proofs.Common.{◌≡◌, true, Bool, List, Option, Some, Bor, IfSome, sym, ap, subst, ◌∙◌}
use Rattle.std.specs.Prelude.{◌&&◌}
use Rattle.std.specs.Option.{option_map}
use Rattle.dns_data.specs.Name.{is_prefix}
use Rattle.dns_data.specs.declared.rdata.Rdata.{Rdata}
use Rattle.net_model.specs.Zone.{addresses}
use Rattle.net_model.specs.declared.config.Zone.{Zone}
use Rattle.zone_tree.specs.Tree.{ZoneTree}
use Rattle.zone_lookup.specs.Sides.{both_differ, glue_of_sides}
use Rattle.zone_lookup.proofs.Glue.{further_below}
use Rattle.zone_lookup.proofs.sides.addresses_differ.Goals as goal

-- the zone of a tree that may be there
abbrev zone_in : Option (Bor ZoneTree) → Option Zone
zone_in tree = option_map (λ one. one.now.zone) tree

pub addresses_at-requires : goal.addresses_at-requires
addresses_at-requires c =
    further_below c.in-Some.above.now.zone.origin c.args.cut.now c.args.ns.now
    (subst (λ (tree : Option (Bor ZoneTree)). IfSome tree (λ one. is_prefix one.now.zone.origin c.args.cut.now ≡ true)) c.in-Some.is c.requires.above)
    (sym c.is_prefix_of.ensures.value ∙ c.if-not-is_prefix_of.false)

pub addresses_at-requires-2 : goal.addresses_at-requires-2
addresses_at-requires-2 c =
    further_below c.in-Some-below.below.now.zone.origin c.args.cut.now c.args.ns.now
    (subst (λ (tree : Option (Bor ZoneTree)). IfSome tree (λ one. is_prefix one.now.zone.origin c.args.cut.now ≡ true)) c.in-Some-below.is c.requires.below)
    (sym c.is_prefix_of.ensures.value ∙ c.if-not-is_prefix_of.false)

pub returns : goal.returns
returns c =
    let cut = c.args.cut.now in
    let ns = c.args.ns.now in
    let above = c.in-Some.above.now.zone in
    let below = c.in-Some-below.below.now.zone in
    let under : is_prefix cut ns ≡ true = sym c.is_prefix_of.ensures.value ∙ c.if-not-is_prefix_of.false in
    c.both_differ.ensures
    ∙ ap (λ (items : List Rdata). both_differ items c.items-2.result.now) (c.items.ensures ∙ c.in_ok-glue.ensures)
    ∙ ap (λ (items : List Rdata). both_differ (addresses above ns) items) (c.items-2.ensures ∙ c.in_ok-own.ensures)
    ∙ sym
    (ap (λ (b : Bool). b && glue_of_sides ns (zone_in c.args.above) (zone_in c.args.below)) under
    ∙ ap (λ (tree : Option (Bor ZoneTree)). glue_of_sides ns (zone_in tree) (zone_in c.args.below)) c.in-Some.is
    ∙ ap (λ (tree : Option (Bor ZoneTree)). glue_of_sides ns (Some above) (zone_in tree)) c.in-Some-below.is)
