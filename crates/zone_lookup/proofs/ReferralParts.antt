-- The faults of a referral, part by part: each is one that the zones at both sides of the cut show, and each that they show
-- is among them.
use Rattle.std.proofs.Common.{◌≡◌, Bool, true, false, List, [], ◌++◌, refl, sym, subst, inl, inr}
use Rattle.std.specs.Prelude.{Contains, if◌then◌else◌}
use Rattle.std.proofs.lemmas.List.Elements.{Contains-append_cases, Contains-append_left, Contains-append_right}
use Rattle.dns_data.specs.Name.{is_prefix}
use Rattle.dns_data.proofs.Membership.{none_in_nil, has_first, first_or_later}
use Rattle.net_model.specs.declared.config.Config.{Config}
use Rattle.net_model.specs.declared.deps.Deps.{Deps}
use Rattle.net_model.specs.declared.fault.Fault.{Fault}
use Rattle.net_model.specs.declared.fault.Fault.TheVariants as faults
use Rattle.net_model.specs.declared.place.Cut.{Cut}
use Rattle.zone_lookup.specs.ReferralFaults.{cut_faults, if_shown, referral_faults}
use Rattle.zone_lookup.specs.Sides.{addresses_differ, zones_differ}
use Rattle.zone_lookup.specs.Sound.{depends_on_itself, wants_glue}

-- ---- a fault that is shown, or none

-- a fault among the one that is shown, or none, is that one, and it is shown
pub shown_one : (b : Bool) (fault other : Fault) → Contains (if_shown b fault) other → (b ≡ true) × (fault ≡ other)
shown_one true fault other has = (refl, elim (first_or_later fault [] other has) [ inl same ↦ same | inr none ↦ absurd (none_in_nil other none) ])
shown_one false fault other has = absurd (none_in_nil other has)

-- a fault that is shown is among what is shown
pub one_shown : (b : Bool) (fault : Fault) → b ≡ true → Contains (if_shown b fault) fault
one_shown true fault e = has_first fault []
one_shown false fault e = cc

-- what holds of the fault, if it is shown, holds of all that is shown
pub by_shown : (P : Fault → Type 0) (b : Bool) (fault other : Fault) → (b ≡ true → P fault) → Contains (if_shown b fault) other → P other
by_shown P b fault other holds has = let one = shown_one b fault other has in subst P one.1 (holds one.0)

module _ (config : Config) (deps : Deps) (cut : Cut) where
  -- ---- the parts

  abbrev differing : List Fault
  differing = if_shown (zones_differ config cut) (faults.Differs cut)

  abbrev missing : List Fault
  missing = if_shown (wants_glue config cut) (faults.NoGlue cut)

  abbrev other_glue : List Fault
  other_glue = if_shown (addresses_differ config cut) (faults.GlueDiffers cut)

  abbrev cyclic : List Fault
  cyclic = if_shown (depends_on_itself config deps cut) (faults.Cyclic cut)

  -- ---- what the zones show is among the faults

  -- if the zones at both sides list other name servers, that is among the referral's faults
  pub has_differs : zones_differ config cut ≡ true → Contains (referral_faults config deps cut) (faults.Differs cut)
  has_differs e =
      let fault = faults.Differs cut in
      Contains-append_left (differing ++ missing ++ other_glue) cyclic fault
      (Contains-append_left (differing ++ missing) other_glue fault
      (Contains-append_left differing missing fault (one_shown (zones_differ config cut) fault e)))

  -- if the name server needs glue and has none, that is among the referral's faults
  pub has_no_glue : wants_glue config cut ≡ true → Contains (referral_faults config deps cut) (faults.NoGlue cut)
  has_no_glue e =
      let fault = faults.NoGlue cut in
      Contains-append_left (differing ++ missing ++ other_glue) cyclic fault
      (Contains-append_left (differing ++ missing) other_glue fault
      (Contains-append_right differing missing fault (one_shown (wants_glue config cut) fault e)))

  -- if the zones at both sides hold other addresses of the name server, that is among the referral's faults
  pub has_other_glue : addresses_differ config cut ≡ true → Contains (referral_faults config deps cut) (faults.GlueDiffers cut)
  has_other_glue e =
      let fault = faults.GlueDiffers cut in
      Contains-append_left (differing ++ missing ++ other_glue) cyclic fault
      (Contains-append_right (differing ++ missing) other_glue fault (one_shown (addresses_differ config cut) fault e))

  -- if the name server's address depends on itself, that is among the referral's faults
  pub has_cyclic : depends_on_itself config deps cut ≡ true → Contains (referral_faults config deps cut) (faults.Cyclic cut)
  has_cyclic e =
      let fault = faults.Cyclic cut in
      Contains-append_right (differing ++ missing ++ other_glue) cyclic fault (one_shown (depends_on_itself config deps cut) fault e)

  -- ---- the faults are what the zones show

  -- what holds of each of the four that is shown holds of each fault of the referral
  pub each_part : (P : Fault → Type 0) → (zones_differ config cut ≡ true → P (faults.Differs cut)) → (wants_glue config cut ≡ true → P (faults.NoGlue cut))
      → (addresses_differ config cut ≡ true → P (faults.GlueDiffers cut)) → (depends_on_itself config deps cut ≡ true → P (faults.Cyclic cut))
      → (fault : Fault) → Contains (referral_faults config deps cut) fault → P fault
  each_part P one two three four fault has =
      elim (Contains-append_cases (differing ++ missing ++ other_glue) cyclic fault has) [
        | inl first ↦ elim (Contains-append_cases (differing ++ missing) other_glue fault first) [
          | inl both ↦ elim (Contains-append_cases differing missing fault both) [
            | inl here ↦ by_shown P (zones_differ config cut) (faults.Differs cut) fault one here
            | inr here ↦ by_shown P (wants_glue config cut) (faults.NoGlue cut) fault two here
          ]
          | inr here ↦ by_shown P (addresses_differ config cut) (faults.GlueDiffers cut) fault three here
        ]
        | inr last ↦ by_shown P (depends_on_itself config deps cut) (faults.Cyclic cut) fault four last
      ]

  -- ---- of a zone cut

  -- the faults of a zone cut are those of a referral
  pub from_cut : (fault : Fault) → Contains (cut_faults config deps cut) fault → Contains (referral_faults config deps cut) fault
  from_cut fault has = by (is_prefix cut.zone cut.cut) has where
    by : (b : Bool) → Contains (if b then referral_faults config deps cut else []) fault → Contains (referral_faults config deps cut) fault
    by true has = has
    by false has = absurd (none_in_nil fault has)

  -- each fault of a referral is one of its zone cut, if the cut is at or below its zone's origin
  pub in_cut : is_prefix cut.zone cut.cut ≡ true → (fault : Fault) → Contains (referral_faults config deps cut) fault → Contains (cut_faults config deps cut) fault
  in_cut inside fault has = subst (λ (b : Bool). Contains (if b then referral_faults config deps cut else []) fault) (sym inside) has
