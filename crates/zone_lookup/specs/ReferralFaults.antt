-- The faults of a referral to a name server, whatever comes behind it: what the NS and glue records at both sides of
-- the zone cut show (RFC 1034 sections 4.2.1 and 4.3.2). The contracts of inner calls alone cite it.
use Rattle.std.specs.Prelude.{Bool, List, [], ◌∷◌, ◌++◌, if◌then◌else◌}
use Rattle.dns_data.specs.Name.{is_prefix}
use Rattle.net_model.specs.declared.config.Config.{Config}
use Rattle.net_model.specs.declared.deps.Deps.{Deps}
use Rattle.net_model.specs.declared.fault.Fault.{Fault}
use Rattle.net_model.specs.declared.fault.Fault.TheVariants as faults
use Rattle.net_model.specs.declared.place.Cut.{Cut}
use Rattle.net_model.specs.declared.walk.Hop.{Hop}
use Rattle.net_model.specs.declared.walk.Hop.TheVariants.{Refer, Rewrite}
use Rattle.zone_lookup.specs.Sides.{addresses_differ, zones_differ}
use Rattle.zone_lookup.specs.Sound.{depends_on_itself, wants_glue}

-- a fault that is shown, or none
abbrev pub if_shown : Bool → Fault → List Fault
if_shown shown fault = if shown then fault ∷ [] else []

-- the faults of a referral, whatever comes behind it
abbrev pub referral_faults : Config → Deps → Cut → List Fault
referral_faults config deps cut =
    if_shown (zones_differ config cut) (faults.Differs cut) ++ if_shown (wants_glue config cut) (faults.NoGlue cut)
    ++ if_shown (addresses_differ config cut) (faults.GlueDiffers cut) ++ if_shown (depends_on_itself config deps cut) (faults.Cyclic cut)

-- the faults of a referral whose zone cut is at or below its zone's origin, as that of every referral on a walk is; another
-- referral has none
abbrev pub cut_faults : Config → Deps → Cut → List Fault
cut_faults config deps cut = if is_prefix cut.zone cut.cut then referral_faults config deps cut else []

-- the faults of a hop, whatever comes behind it: those of a referral's zone cut, and none of a rewrite
abbrev pub hop_faults : Config → Deps → Hop → List Fault
hop_faults config deps (Refer cut) = cut_faults config deps cut
hop_faults config deps (Rewrite place by_dname to) = []
