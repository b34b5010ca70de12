use Rattle.std.proofs.Common.{◌≡◌, true, List, length, Option, Some, None, Bor, IfSome, IfNone, sym, ap, ◌∙◌}
use Rattle.std.specs.Option.{option_map}
use Rattle.dns_data.specs.Name.{Labels, is_prefix}
use Rattle.net_model.specs.declared.config.Server.{Server}
use Rattle.net_model.specs.Nearest.{nearest, zone_with_origin}
use Rattle.zone_tree.specs.Tree.{ZoneTree}
use Rattle.zone_lookup.specs.Hosts.{tree_at}
use Rattle.zone_lookup.specs.Named.{NoneFrom, IsAtLongest}
use Rattle.zone_lookup.proofs.NearestZones.{nearest_of_tree, tree_has, nearest_of_none}
use Rattle.zone_lookup.proofs.hosts.Host.nearest_near.Goals as goal

module _ (server : Server) (name : Labels) (trees : List ZoneTree)
    (firsts : (origin : Labels) → option_map (λ (tree : ZoneTree). tree.zone) (tree_at trees origin) ≡ zone_with_origin server origin) where
  zone_by : (result : Option (Bor ZoneTree)) → IfSome result (λ tree. IsAtLongest (tree_at trees) name (length name) tree.now)
      → IfNone result (NoneFrom (tree_at trees) name (length name) 0) → option_map (λ (tree : Bor ZoneTree). tree.now.zone) result ≡ nearest server name
  zone_by None some none = sym (nearest_of_none server name trees firsts none)
  zone_by (Some tree) some none = sym (nearest_of_tree server name trees firsts tree.now some)

  inside_by : (result : Option (Bor ZoneTree)) → IfSome result (λ tree. IsAtLongest (tree_at trees) name (length name) tree.now)
      → IfSome result (λ tree. is_prefix tree.now.zone.origin name ≡ true)
  inside_by None some = tt
  inside_by (Some tree) some = tree_has server name trees firsts tree.now some

pub returns-clause-zone : goal.returns-clause-zone
returns-clause-zone c =
    zone_by c.args.self.now c.args.name.now c.as_slice.result.now
    (λ origin. ap (λ (trees : List ZoneTree). option_map (λ (tree : ZoneTree). tree.zone) (tree_at trees origin)) c.as_slice.ensures.value
    ∙ c.self.invariant.firsts origin ∙ ap (λ (s : Server). zone_with_origin s origin) c.self.view_is)
    c.nearest_item.result c.nearest_item.ensures.some c.nearest_item.ensures.none

pub returns-clause-inside : goal.returns-clause-inside
returns-clause-inside c =
    inside_by c.args.self.now c.args.name.now c.as_slice.result.now
    (λ origin. ap (λ (trees : List ZoneTree). option_map (λ (tree : ZoneTree). tree.zone) (tree_at trees origin)) c.as_slice.ensures.value
    ∙ c.self.invariant.firsts origin ∙ ap (λ (s : Server). zone_with_origin s origin) c.self.view_is)
    c.nearest_item.result c.nearest_item.ensures.some
