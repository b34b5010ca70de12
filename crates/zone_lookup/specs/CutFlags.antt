-- What a referral to a name server shows, whatever comes behind it and whatever is asked, as a flag for each kind.
use Rattle.std.specs.Prelude.{Bool, false, ◌&&◌, ◌||◌, not, List, ◌++◌, Option}
use Rattle.std.specs.Option.{option_map_or}
use Rattle.dns_data.specs.Name.{Labels, is_among, is_prefix}
use Rattle.net_model.specs.declared.config.Config.{Config}
use Rattle.net_model.specs.declared.config.Zone.{Zone}
use Rattle.net_model.specs.declared.deps.Deps.{Deps}
use Rattle.net_model.specs.declared.fault.Fault.{Fault}
use Rattle.net_model.specs.declared.fault.Fault.TheVariants as faults
use Rattle.net_model.specs.declared.place.Cut.{Cut}
use Rattle.net_model.specs.Nearest.{is_configured, is_top}
use Rattle.net_model.specs.Step.{may_follow}
use Rattle.net_model.specs.Zone.{has_address}
use Rattle.zone_lookup.specs.ReferralFaults.{if_shown}
use Rattle.zone_lookup.specs.Sides.{addresses_differ, glue_of_sides, sides_differ, zones_differ}
use Rattle.zone_lookup.specs.Sound.{depends_on_itself, wants_glue}
use Rattle.zone_lookup.specs.declared.cut_flags.CutFlags.{CutFlags}

-- the name server is configured, and its address isn't known while the servers of the least set are followed
abbrev pub lacks_address : Config → Deps → Cut → Bool
lacks_address config deps cut = is_configured config cut.ns && not (may_follow config cut deps.least)

-- what the referral shows
abbrev pub flags_of : Config → Deps → Cut → CutFlags
flags_of config deps cut = record {
  differs = zones_differ config cut;
  no_glue = wants_glue config cut;
  glue_differs = addresses_differ config cut;
  cyclic = depends_on_itself config deps cut;
  no_address = lacks_address config deps cut;
}

-- the name server is at or below the cut, and the zone that refers is there and holds an address of it
abbrev pub glue_by : Option Zone → Labels → Labels → Bool
glue_by above cut ns = is_prefix cut ns && option_map_or (λ zone. has_address zone ns) above false

-- what the referral shows, by whether its name server is configured and by the zones at both sides of it
abbrev pub flags_by : Config → Deps → Bool → Option Zone → Option Zone → Labels → Labels → CutFlags
flags_by config deps configured above below cut ns = record {
  differs = sides_differ cut above below;
  no_glue = is_prefix cut ns && not (glue_by above cut ns);
  glue_differs = is_prefix cut ns && glue_of_sides ns above below;
  cyclic = configured && not (is_top config ns) && not (glue_by above cut ns) && is_among deps.greatest ns && not (is_among deps.least ns);
  no_address = configured && not (is_top config ns || glue_by above cut ns || is_among deps.least ns);
}

-- what a referral shows of which the glue alone is looked for
abbrev pub glue_alone : Bool → CutFlags
glue_alone missing = record { differs = false; no_glue = missing; glue_differs = false; cyclic = false; no_address = false }

-- the faults of the zone cut that the flags tell
abbrev pub faults_by : CutFlags → Cut → List Fault
faults_by flags cut =
    if_shown flags.differs (faults.Differs cut) ++ if_shown flags.no_glue (faults.NoGlue cut)
    ++ if_shown flags.glue_differs (faults.GlueDiffers cut) ++ if_shown flags.cyclic (faults.Cyclic cut)

-- the flags tell no fault, and no want of an address
abbrev pub is_quiet : CutFlags → Bool
is_quiet flags = not (flags.differs || flags.no_glue || flags.glue_differs || flags.cyclic || flags.no_address)
