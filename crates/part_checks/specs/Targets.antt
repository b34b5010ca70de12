-- Which names the records of a part lead to. The contracts of inner calls alone cite it.
use Rattle.std.specs.Prelude.{◌≡◌, Bool, true, ◌&&◌, ◌||◌, not}
use Rattle.dns_data.specs.Name.{Labels, is_prefix, name_eq}
use Rattle.dns_data.specs.declared.rdata.Rdata.{Rdata}
use Rattle.dns_data.specs.declared.rdata.Rdata.TheVariants.{Ns, Cname, Dname}
use Rattle.dns_data.specs.declared.rdata.Rr.{Rr}
use Rattle.net_model.specs.Nearest.{is_configured, is_top}
use Rattle.net_model.specs.declared.config.Config.{Config}
use Rattle.net_model.specs.declared.config.Zone.{Zone}
use Rattle.part_names.specs.declared.names.PartNames.{PartNames}
use Rattle.part_checks.specs.Outside.{IsHeldOrAtAway}

-- an NS record of this owner is of a delegation, and its name server may have glue there, or an address that may have to be
-- learnt
abbrev pub may_matter : Config → Zone → Labels → Labels → Bool
may_matter config zone owner ns =
    not (name_eq owner zone.origin) && (is_prefix owner ns || (is_configured config ns && not (is_top config ns)))

-- what data of this owner lead to is held, or told as away where it leaves the held names
abbrev pub LeadsInside : PartNames → Config → Zone → Labels → Rdata → Type 0
LeadsInside names config zone owner (Cname target) = IsHeldOrAtAway names target
LeadsInside names config zone owner (Dname target) = IsHeldOrAtAway names target
LeadsInside names config zone owner (Ns target) = may_matter config zone owner target ≡ true → IsHeldOrAtAway names target
LeadsInside names config zone owner rdata = Unit {0}

-- what the record leads to is held, or told as away where it leaves the held names
abbrev pub IsLed : PartNames → Config → Zone → Rr → Type 0
IsLed names config zone rr = LeadsInside names config zone rr.owner rr.rdata
