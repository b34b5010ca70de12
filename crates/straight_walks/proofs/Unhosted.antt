-- A referral to a name server that isn't configured is sound unless it wants glue, and walks end there.
use Rattle.std.proofs.Common.{◌≡◌, false, not, Option, Some, None, refl, sym, ap, ◌∙◌}
use Rattle.std.specs.Prelude.{◌&&◌, is_some}
use Rattle.std.specs.Option.{option_map_or}
use Rattle.dns_data.specs.Name.{Labels, is_prefix}
use Rattle.dns_data.proofs.Membership.{none_in_nil}
use Rattle.net_model.specs.declared.deps.Deps.{Deps}
use Rattle.net_model.specs.Nearest.{held_zone, server_named}
use Rattle.net_model.specs.Zone.{has_address}
use Rattle.net_model.specs.declared.config.Config.{Config}
use Rattle.net_model.specs.declared.config.Zone.{Zone}
use Rattle.net_model.specs.declared.place.Cut.{Cut}
use Rattle.zone_lookup.specs.CutTable.{cut_to}
use Rattle.zone_lookup.specs.Sound.{wants_glue}
use Rattle.zone_lookup.proofs.SoundReferrals.{unhosted_sound}
use Rattle.straight_walks.specs.Searching.{IsReferral, no_flags}
use Rattle.straight_walks.specs.declared.name_server.Referral.TheVariants as referral
use Rattle.straight_walks.proofs.FlagsByTable.{ends_unhosted, sound_shows_none}

-- servers that hold the same zone refer to a name server of its zone cut with glue alike
pub same_glue : (config : Config) (server other : Labels) (zone : Zone) (cut ns : Labels) → held_zone config server zone.origin ≡ Some zone → held_zone config other zone.origin ≡ Some zone
    → wants_glue config (cut_to server zone cut ns) ≡ wants_glue config (cut_to other zone cut ns)
same_glue config server other zone cut ns held same =
    let below = is_prefix cut ns in
    ap (λ (referring : Option Zone). below && not (below && option_map_or (λ zone. has_address zone ns) referring false)) (held ∙ sym same)

-- a referral to a server that isn't configured ends without an answer and shows no fault, where it wants no glue
pub unhosted_ends : (config : Config) (deps : Deps) (query : Labels) (cut : Cut) → server_named config cut.ns ≡ None → wants_glue config cut ≡ false
    → IsReferral config deps query cut (referral.Ends no_flags)
unhosted_ends config deps query cut unhosted glued =
    let sound = unhosted_sound config deps cut unhosted glued in
    ends_unhosted config deps query cut no_flags
    (record {
      lame_is = refl;
      each = λ fault has. absurd (sound_shows_none config deps cut sound fault has);
      only = λ fault has. absurd (none_in_nil fault has);
    })
    (ap is_some unhosted)
