-- Sound referrals.
use Rattle.std.proofs.Common.{◌≡◌, Bool, true, false, not, Option, Some, None, ℕ, refl, sym, ap, ◌∙◌}
use Rattle.std.specs.Prelude.{◌&&◌, ◌||◌, is_some, option_and_then}
use Rattle.std.specs.Option.{option_map_or}
use Rattle.dns_data.specs.Name.{is_prefix, is_among}
use Rattle.net_model.specs.Nearest.{held_zone, is_top, server_named, zone_with_origin}
use Rattle.net_model.specs.Step.{has_glue, may_follow}
use Rattle.net_model.specs.Zone.{has_address}
use Rattle.net_model.specs.declared.config.Config.{Config}
use Rattle.net_model.specs.declared.config.Server.{Server}
use Rattle.net_model.specs.declared.config.Zone.{Zone}
use Rattle.net_model.specs.declared.deps.Deps.{Deps}
use Rattle.net_model.specs.declared.place.Cut.{Cut}
use Rattle.zone_tree.specs.Tree.{ZoneTree, name_of}
use Rattle.zone_lookup.specs.CutFlags.{flags_by, flags_of, glue_alone, lacks_address}
use Rattle.zone_lookup.specs.CutTable.{cut_to}
use Rattle.zone_lookup.specs.Sides.{addresses_differ, glue_of_sides, sides_differ, zones_differ}
use Rattle.zone_lookup.specs.Sound.{IsSound, depends_on_itself, wants_glue}

-- where the name server holds no zone there is nothing that differs
same_alone : (cut : Cut) (above : Option Zone) → sides_differ cut.cut above None ≡ false
same_alone cut None = refl
same_alone cut (Some above) = refl

addresses_alone : (below : Bool) (cut : Cut) (above : Option Zone) → (below && glue_of_sides cut.ns above None) ≡ false
addresses_alone false cut above = refl
addresses_alone true cut None = refl
addresses_alone true cut (Some above) = refl

none_below : (below address : Bool) → (below && not address) ≡ (below && not (below && address))
none_below false address = refl
none_below true address = refl

-- whether the name server of a zone cut is below it and has no address in the tree's zone is whether it wants glue
pub glue_told : (config : Config) (tree : ZoneTree) (node : ℕ) (cut : Cut) → cut ≡ cut_to cut.server tree.zone (name_of tree node) cut.ns
    → held_zone config cut.server tree.zone.origin ≡ Some tree.zone → (is_prefix (name_of tree node) cut.ns && not (has_address tree.zone cut.ns)) ≡ wants_glue config cut
glue_told config tree node cut is held =
    let below = is_prefix (name_of tree node) cut.ns in
    let glue : has_glue config (cut_to cut.server tree.zone (name_of tree node) cut.ns) ≡ (below && has_address tree.zone cut.ns) =
    ap (λ (zone : Option Zone). below && option_map_or (λ z. has_address z cut.ns) zone false) held in
    none_below below (has_address tree.zone cut.ns) ∙ sym (ap (λ (b : Bool). below && not b) glue) ∙ sym (ap (wants_glue config) is)

module _ (config : Config) (deps : Deps) (cut : Cut) (unhosted : server_named config cut.ns ≡ None) where
  abbrev above : Option Zone
  above = held_zone config cut.server cut.zone

  none_held : held_zone config cut.ns cut.cut ≡ None
  none_held = ap (option_and_then (λ (holder : Server). zone_with_origin holder cut.cut)) unhosted

  same_servers : zones_differ config cut ≡ false
  same_servers = ap (sides_differ cut.cut above) none_held ∙ same_alone cut above

  same_addresses : addresses_differ config cut ≡ false
  same_addresses =
      ap (λ (held : Option Zone). is_prefix cut.cut cut.ns && glue_of_sides cut.ns above held) none_held ∙ addresses_alone (is_prefix cut.cut cut.ns) cut above

  independent : depends_on_itself config deps cut ≡ false
  independent =
      ap (λ (named : Option Server). is_some named && not (is_top config cut.ns) && not (has_glue config cut) && is_among deps.greatest cut.ns && not (is_among deps.least cut.ns)) unhosted

  -- a referral to a name server that isn't configured is sound unless it wants glue
  pub unhosted_sound : wants_glue config cut ≡ false → IsSound config deps cut
  unhosted_sound glued = record { same_servers = same_servers; glued = glued; same_addresses = same_addresses; independent = independent }

  -- it shows no more than that
  pub unhosted_flags : (no_glue : Bool) → no_glue ≡ wants_glue config cut → glue_alone no_glue ≡ flags_of config deps cut
  unhosted_flags no_glue glued =
      let known : lacks_address config deps cut ≡ false = ap (λ (named : Option Server). is_some named && not (may_follow config cut deps.least)) unhosted in
      let differ : zones_differ config cut ≡ false = same_servers in
      let glue : addresses_differ config cut ≡ false = same_addresses in
      let cyclic : depends_on_itself config deps cut ≡ false = independent in
      cc

-- an address that isn't known is learnt if each server is followed
pub cyclic_told : (top glue least greatest : Bool) → (not (top || glue || least) && greatest) ≡ (not top && not glue && greatest && not least)
cyclic_told true glue least greatest = refl
cyclic_told false true least greatest = refl
cyclic_told false false true true = refl
cyclic_told false false true false = refl
cyclic_told false false false true = refl
cyclic_told false false false false = refl

-- what a referral to a configured name server shows is told by the zones at both sides
pub flags_told : (config : Config) (deps : Deps) (cut : Cut) (host : Server) (first other : Option Zone) → server_named config cut.ns ≡ Some host
    → held_zone config cut.server cut.zone ≡ first → other ≡ zone_with_origin host cut.cut
    → flags_by config deps true first other cut.cut cut.ns ≡ flags_of config deps cut
flags_told config deps cut host first other named held serves =
    let own : held_zone config cut.ns cut.cut ≡ other = ap (option_and_then (λ (holder : Server). zone_with_origin holder cut.cut)) named ∙ sym serves in
    ap (λ (zone : Option Zone). flags_by config deps true zone other cut.cut cut.ns) (sym held)
    ∙ ap (λ (zone : Option Zone). flags_by config deps true (held_zone config cut.server cut.zone) zone cut.cut cut.ns) (sym own)
    ∙ ap (λ (configured : Bool). flags_by config deps configured (held_zone config cut.server cut.zone) (held_zone config cut.ns cut.cut) cut.cut cut.ns)
    (sym (ap is_some named))
