use Rattle.std.proofs.Common.{◌≡◌, true, Option, Bor, IfSome, subst}
use Rattle.dns_data.specs.Name.{is_prefix}
use Rattle.zone_tree.specs.Tree.{ZoneTree}
use Rattle.zone_lookup.proofs.sides.zones_differ.Goals as goal

pub servers_at-requires : goal.servers_at-requires
servers_at-requires c =
    subst (λ (tree : Option (Bor ZoneTree)). IfSome tree (λ one. is_prefix one.now.zone.origin c.args.cut.now ≡ true)) c.in-Some.is c.requires.above

pub servers_at-requires-2 : goal.servers_at-requires-2
servers_at-requires-2 c =
    subst (λ (tree : Option (Bor ZoneTree)). IfSome tree (λ one. is_prefix one.now.zone.origin c.args.cut.now ≡ true)) c.in-Some-below.is c.requires.below
