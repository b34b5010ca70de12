-- Glue by the tree of the referring zone.
use Rattle.std.proofs.Common.{◌≡◌, Bool, true, false, ◌++◌, Option, Some, None, Bor, IfSome, sym, refl, ap, ◌∙◌, subst, append_assoc}
use Rattle.std.specs.Prelude.{◌||◌, option_and_then}
use Rattle.std.specs.Option.{option_map}
use Rattle.dns_data.specs.Name.{Labels, name_eq, is_prefix}
use Rattle.dns_data.specs.declared.rr_type.RrType.{RrType}
use Rattle.dns_data.specs.declared.rr_type.RrType.TheVariants as types
use Rattle.dns_data.proofs.NameFronts.{begins_itself, is_prefix_tells, is_prefix_told}
use Rattle.dns_data.proofs.Names.{name_eq_decides}
use Rattle.dns_data.proofs.Searches.{found_there}
use Rattle.net_model.specs.declared.config.Config.{Config}
use Rattle.net_model.specs.declared.config.Server.{Server}
use Rattle.net_model.specs.declared.config.Zone.{Zone}
use Rattle.net_model.specs.Nearest.{server_named, zone_with_origin, held_zone}
use Rattle.net_model.specs.Zone.{exists_in, owns, has_address}
use Rattle.net_model.proofs.OpenTails.{owner_exists}
use Rattle.zone_tree.specs.Tree.{ZoneTree}

-- a name that is at or below a second, which is at or below a third, is at or below the third
pub further_below : (a b c : Labels) → is_prefix a b ≡ true → is_prefix b c ≡ true → is_prefix a c ≡ true
further_below a b c one other =
    let first = is_prefix_tells a b one in
    let second = is_prefix_tells b c other in
    is_prefix_told a c
    (first.0 ++ second.0, sym (append_assoc a first.0 second.0) ∙ ap (λ (x : Labels). x ++ second.0) first.1 ∙ second.1)

-- the zone that is held has the origin
pub held_origin : (config : Config) (server origin : Labels) (zone : Zone) → held_zone config server origin ≡ Some zone → zone.origin ≡ origin
held_origin config server origin zone e = by (server_named config server) e where
  by : (holder : Option Server) → option_and_then (λ holder. zone_with_origin holder origin) holder ≡ Some zone → zone.origin ≡ origin
  by None e = cc
  by (Some holder) e = (name_eq_decides zone.origin origin).0 (found_there (λ (z : Zone). name_eq z.origin origin) holder.zones zone e).1

-- so it is at or above a name that the origin is at or above
pub held_above : (config : Config) (server origin name : Labels) (held : Option (Bor ZoneTree)) → option_map (λ tree. tree.now.zone) held ≡ held_zone config server origin
    → is_prefix origin name ≡ true → IfSome held (λ tree. is_prefix tree.now.zone.origin name ≡ true)
held_above config server origin name None is above = tt
held_above config server origin name (Some tree) is above =
    subst (λ (top : Labels). is_prefix top name ≡ true) (sym (held_origin config server origin tree.now.zone (sym is))) above

-- and the zone that a server has with an origin is at or above it
pub own_above : (server : Server) (origin : Labels) (own : Option (Bor ZoneTree)) → option_map (λ tree. tree.now.zone) own ≡ zone_with_origin server origin
    → IfSome own (λ tree. is_prefix tree.now.zone.origin origin ≡ true)
own_above server origin None is = tt
own_above server origin (Some tree) is =
    let same : tree.now.zone.origin ≡ origin =
    (name_eq_decides tree.now.zone.origin origin).0 (found_there (λ (z : Zone). name_eq z.origin origin) server.zones tree.now.zone (sym is)).1 in
    subst (λ (top : Labels). is_prefix top origin ≡ true) (sym same) (begins_itself origin)

-- a name that doesn't exist owns nothing
pub missing_owns : (zone : Zone) (name : Labels) (rtype : RrType) → is_prefix zone.origin name ≡ true → exists_in zone name ≡ false
    → owns zone name rtype ≡ false
missing_owns zone name rtype inside missing = by (owns zone name rtype) refl where
  by : (b : Bool) → owns zone name rtype ≡ b → b ≡ false
  by false e = refl
  by true e = let there : exists_in zone name ≡ true = owner_exists zone name rtype inside e in cc

-- a name that doesn't exist has no address
pub missing_has_none : (zone : Zone) (name : Labels) → is_prefix zone.origin name ≡ true → exists_in zone name ≡ false
    → has_address zone name ≡ false
missing_has_none zone name inside missing =
    ap (λ (b : Bool). b || owns zone name types.Aaaa) (missing_owns zone name types.A inside missing)
    ∙ missing_owns zone name types.Aaaa inside missing
