-- Sound referrals: what a referral to a name server shows, whatever comes behind it and whatever is asked.
use Rattle.std.specs.Prelude.{◌≡◌, Bool, false, ◌&&◌, not}
use Rattle.dns_data.specs.Name.{is_prefix, is_among}
use Rattle.net_model.specs.Nearest.{is_configured, is_top}
use Rattle.net_model.specs.Step.{has_glue}
use Rattle.net_model.specs.declared.config.Config.{Config}
use Rattle.net_model.specs.declared.deps.Deps.{Deps}
use Rattle.net_model.specs.declared.place.Cut.{Cut}
use Rattle.zone_lookup.specs.Sides.{addresses_differ, zones_differ}

-- the name server is at or below the cut and has no glue
abbrev pub wants_glue : Config → Cut → Bool
wants_glue config cut = is_prefix cut.cut cut.ns && not (has_glue config cut)

-- the configured name server is no top server and has no glue, and its address is learnt only by way of such ones
abbrev pub depends_on_itself : Config → Deps → Cut → Bool
depends_on_itself config deps cut =
    is_configured config cut.ns && not (is_top config cut.ns) && not (has_glue config cut)
    && is_among deps.greatest cut.ns && not (is_among deps.least cut.ns)

-- The zones at both sides of a referral list the same name servers, and hold the same addresses of the one to which it
-- leads. That one has glue where it needs some, and its address doesn't depend on itself.
pub record IsSound (config : Config) (deps : Deps) (cut : Cut) : Type 0 where
  pub same_servers : zones_differ config cut ≡ false
  pub glued : wants_glue config cut ≡ false
  pub same_addresses : addresses_differ config cut ≡ false
  pub independent : depends_on_itself config deps cut ≡ false
