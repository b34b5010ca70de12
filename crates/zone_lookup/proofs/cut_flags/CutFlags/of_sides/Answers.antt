use Rattle.std.proofs.Common.{◌≡◌, Bool, true, not, Option, Bor, ap, ◌∙◌}
use Rattle.std.specs.Prelude.{◌&&◌, ◌||◌}
use Rattle.std.specs.Option.{option_map}
use Rattle.dns_data.specs.Name.{is_among, is_prefix}
use Rattle.net_model.specs.Nearest.{is_top}
use Rattle.net_model.specs.declared.config.Zone.{Zone}
use Rattle.zone_tree.specs.Tree.{ZoneTree}
use Rattle.zone_lookup.specs.CutFlags.{glue_by}
use Rattle.zone_lookup.specs.Sides.{glue_of_sides, sides_differ}
use Rattle.zone_lookup.proofs.SoundReferrals.{cyclic_told}
use Rattle.zone_lookup.proofs.cut_flags.CutFlags.of_sides.Goals as goal

-- the zone of a tree that may be there
abbrev zone_in : Option (Bor ZoneTree) → Option Zone
zone_in tree = option_map (λ one. one.now.zone) tree

pub returns : goal.returns
returns c =
    let config = c.args.hosts.now in
    let deps = c.args.sets.now in
    let cut = c.args.cut.now in
    let ns = c.args.ns.now in
    let glue : Bool = glue_by (zone_in c.args.above) cut ns in
    let known : c.is_known-known.result ≡ (is_top config ns || glue || is_among deps.least ns) =
    c.is_known-known.ensures ∙ ap (λ (b : Bool). is_top config ns || b || is_among deps.least ns) c.has_glue-glued.ensures in
    let differs : c.zones_differ.result ≡ sides_differ cut (zone_in c.args.above) (zone_in c.args.below) = c.zones_differ.ensures in
    let no_glue : c.is_without.result ≡ (is_prefix cut ns && not glue) = c.is_without.ensures ∙ ap (λ (b : Bool). is_prefix cut ns && not b) c.has_glue-glued.ensures in
    let glue_differs : c.in_ok-glue_differs.glue_differs ≡ (is_prefix cut ns && glue_of_sides ns (zone_in c.args.above) (zone_in c.args.below)) = c.in_ok-glue_differs.ensures in
    let cyclic : c.is_cyclic.result ≡ (true && not (is_top config ns) && not glue && is_among deps.greatest ns && not (is_among deps.least ns)) =
    c.is_cyclic.ensures ∙ ap (λ (b : Bool). not b && is_among deps.greatest ns) known
    ∙ cyclic_told (is_top config ns) glue (is_among deps.least ns) (is_among deps.greatest ns) in
    let no_address : not c.is_known-known.result ≡ (true && not (is_top config ns || glue || is_among deps.least ns)) = ap not known in
    cc
