-- Where a referral leads: to a name server that isn't configured, whose address isn't known, or that has no zone at or
-- below the zone cut for the name, so that walks end there; or on to its zone.
use Rattle.std.specs.Prelude.{◌≡◌, true, false, length, Some}
use Rattle.dns_data.specs.Name.{Labels, is_prefix}
use Rattle.net_model.specs.declared.config.Zone.{Zone}
use Rattle.net_model.specs.declared.place.Cut.{Cut}
use Rattle.net_model.specs.declared.walk.Hop.TheVariants.{Refer}
use Rattle.net_model.specs.declared.walk.Leaf.TheVariants as leaf
use Rattle.net_model.specs.declared.walk.State.{State}
use Rattle.net_model.specs.Nearest.{is_configured, nearest_of}
use Rattle.net_model.specs.Step.{Setting, Branch, Go, End, may_follow}
use Rattle.zone_lookup.specs.declared.leads.Lead.{Lead}
use Rattle.zone_lookup.specs.declared.leads.Lead.TheVariants.{Unhosted, NoAddress, Lame, Goes}

-- the cut's name server is configured, and its address is known
pub record IsKnownServer (setting : Setting) (cut : Cut) : Type 0 where
  pub configured : is_configured setting.config cut.ns ≡ true
  pub known : may_follow setting.config cut setting.followed ≡ true

-- a referral of the name to the cut's name server leads so
abbrev pub IsLead : Setting → Cut → Labels → Lead → Type 0
IsLead setting cut name Unhosted = is_configured setting.config cut.ns ≡ false
IsLead setting cut name NoAddress =
    (is_configured setting.config cut.ns ≡ true) × (may_follow setting.config cut setting.followed ≡ false)
IsLead setting cut name Lame =
    IsKnownServer setting cut × ((zone : Zone) → nearest_of setting.config cut.ns name ≡ Some zone → is_prefix cut.cut zone.origin ≡ false)
IsLead setting cut name (Goes tree) =
    IsKnownServer setting cut × (nearest_of setting.config cut.ns name ≡ Some tree.now.zone) × (is_prefix cut.cut tree.now.zone.origin ≡ true)

-- the branch of a state's referral that leads so
abbrev pub lead_branch : State → Cut → Lead → Branch
lead_branch state cut Unhosted = End (Some (Refer cut)) (leaf.Unhosted cut.ns)
lead_branch state cut NoAddress = End (Some (Refer cut)) (leaf.NoAddress cut.ns)
lead_branch state cut Lame = End (Some (Refer cut)) (leaf.Lame cut.ns)
lead_branch state cut (Goes tree) =
    Go (Refer cut) (record state { server = cut.ns; cut = length cut.cut; zone = Some tree.now.zone.origin })
