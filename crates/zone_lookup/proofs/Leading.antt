-- The branch of a referral, by where it leads.
use Rattle.std.proofs.Common.{◌≡◌, Bool, false, not, Option, Some, None, refl, ap, ◌∙◌}
use Rattle.std.specs.Prelude.{if◌then◌else◌}
use Rattle.dns_data.specs.Name.{is_prefix}
use Rattle.net_model.specs.declared.config.Zone.{Zone}
use Rattle.net_model.specs.declared.place.Cut.{Cut}
use Rattle.net_model.specs.declared.walk.Hop.TheVariants.{Refer}
use Rattle.net_model.specs.declared.walk.Leaf.TheVariants as leaf
use Rattle.net_model.specs.declared.walk.State.{State}
use Rattle.net_model.specs.Nearest.{nearest_of}
use Rattle.net_model.specs.Step.{Setting, Branch, End, delegated, referred}
use Rattle.zone_lookup.specs.declared.leads.Lead.{Lead}
use Rattle.zone_lookup.specs.declared.leads.Lead.TheVariants as lead
use Rattle.zone_lookup.specs.Leads.{IsLead, IsKnownServer, lead_branch}

module _ (setting : Setting) (state : State) (cut : Cut) where
  -- the branch, by whether the name server is configured and its address is known
  abbrev by_tests : Bool → Bool → Branch
  by_tests configured known =
      if not configured then End (Some (Refer cut)) (leaf.Unhosted cut.ns)
      else (if not known then End (Some (Refer cut)) (leaf.NoAddress cut.ns) else delegated state cut (nearest_of setting.config cut.ns state.name))

  reached : IsKnownServer setting cut → referred setting state cut ≡ delegated state cut (nearest_of setting.config cut.ns state.name)
  reached is = rw (is.configured, is.known) refl

  lame : (held : Option Zone) → ((zone : Zone) → held ≡ Some zone → is_prefix cut.cut zone.origin ≡ false) → delegated state cut held ≡ End (Some (Refer cut)) (leaf.Lame cut.ns)
  lame None apart = refl
  lame (Some zone) apart = rw (apart zone refl) refl

  -- a referral has the branch of where it leads
  pub refers_by : (one : Lead) → IsLead setting cut state.name one → referred setting state cut ≡ lead_branch state cut one
  refers_by lead.Unhosted so = rw so refl
  refers_by lead.NoAddress so = rw (so.0, so.1) refl
  refers_by lead.Lame so = reached so.0 ∙ lame (nearest_of setting.config cut.ns state.name) so.1
  refers_by (lead.Goes tree) so = reached so.0 ∙ ap (delegated state cut) so.1 ∙ rw so.2 refl
