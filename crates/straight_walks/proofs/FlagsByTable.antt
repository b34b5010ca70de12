-- What the table of zone cuts has of a referral to one name server, and its branch.
use Rattle.std.proofs.Common.{◌≡◌, ℕ, zero, suc, ◌<◌, Bool, true, false, not, List, [], ◌∷◌, ◌++◌, length, map, get_or, Option, Some, None, Bor, refl, sym, ap, ◌∙◌, subst, inl, inr, true≢false, arith}
use Rattle.std.specs.Prelude.{◌&&◌, ◌||◌, option_map, Contains}
use Rattle.std.specs.List.{AllByRecursion, list_any}
use Rattle.std.proofs.lemmas.List.{append-nil, append_assoc}
use Rattle.std.proofs.lemmas.List.Elements.{Contains-append_cases, Contains-append_right}
use Rattle.dns_data.specs.Name.{Labels, is_among, name_eq}
use Rattle.net_model.specs.declared.deps.Deps.{Deps}
use Rattle.net_model.specs.Nearest.{is_configured, is_top, nearest_of}
use Rattle.net_model.specs.Step.{Setting, Go, End, following, has_glue, may_follow, referred}
use Rattle.net_model.specs.declared.config.Config.{Config}
use Rattle.net_model.specs.declared.config.Zone.{Zone}
use Rattle.net_model.specs.declared.fault.Fault.{Fault}
use Rattle.net_model.specs.declared.fault.Fault.TheVariants as faults
use Rattle.net_model.specs.declared.place.Cut.{Cut}
use Rattle.net_model.specs.declared.walk.Hop.TheVariants.{Refer}
use Rattle.net_model.specs.declared.walk.State.{State}
use Rattle.zone_tree.specs.Tree.{ZoneTree}
use Rattle.zone_lookup.specs.CutFlags.{flags_of, glue_alone, is_quiet, lacks_address}
use Rattle.zone_lookup.specs.CutTable.{AreCutFlags}
use Rattle.zone_lookup.specs.Leads.{IsKnownServer, IsLead}
use Rattle.zone_lookup.specs.ReferralFaults.{if_shown, referral_faults}
use Rattle.zone_lookup.specs.Sides.{addresses_differ, zones_differ}
use Rattle.zone_lookup.specs.Sound.{IsSound, depends_on_itself, wants_glue}
use Rattle.zone_lookup.specs.declared.cut_flags.CutFlags.{CutFlags}
use Rattle.zone_lookup.specs.declared.leads.Lead.TheVariants as lead
use Rattle.zone_lookup.proofs.Leading.{refers_by}
use Rattle.zone_lookup.proofs.ReferralParts.{each_part, shown_one}
use Rattle.straight_walks.specs.Faulty.{AreFlagsBySides, flag_faults, flags_at, flags_by}
use Rattle.straight_walks.specs.Searching.{AreFlagsOf, IsReferral, IsSettingOf, outer_leaf, state_at}
use Rattle.straight_walks.specs.declared.faulty.ReferralFlags.{ReferralFlags}
use Rattle.straight_walks.specs.declared.name_server.Referral.TheVariants as referral

-- ---- the flags of one of the referrals of a zone cut

-- quiet flags tell of no difference, and of no glue that is wanted
quiet_parts : (differs no_glue glue_differs cyclic no_address : Bool) → not (differs || no_glue || glue_differs || cyclic || no_address) ≡ true
    → (false ≡ differs) × (false ≡ no_glue) × (false ≡ glue_differs)
quiet_parts false false false cyclic no_address quiet = (refl, refl, refl)
quiet_parts true no_glue glue_differs cyclic no_address quiet = cc
quiet_parts false true glue_differs cyclic no_address quiet = cc
quiet_parts false false true cyclic no_address quiet = cc

module _ (config : Config) (deps : Deps) where
  -- among the flags of a zone cut stand those of the referral to each of its name servers
  pub flags_of_each : (cuts : List Cut) (told : Option (List CutFlags)) → AreCutFlags config deps cuts told → (number : ℕ) (cut : Cut) → number < length cuts → cut ≡ get_or cuts number cut
      → AreFlagsBySides config cut (flags_at told number)
  flags_of_each cuts None quiet number cut within is =
      let parts = quiet_parts (zones_differ config cut) (wants_glue config cut) (addresses_differ config cut) (depends_on_itself config deps cut) (lacks_address config deps cut)
      (at cuts quiet number within is) in
      record { differs = parts.0; no_glue = parts.1; glue_differs = parts.2 }
    where
      at : (cuts : List Cut) → AllByRecursion (λ one. is_quiet (flags_of config deps one) ≡ true) cuts → (number : ℕ) → number < length cuts → cut ≡ get_or cuts number cut
          → is_quiet (flags_of config deps cut) ≡ true
      at [] each number within is = absurd (omega (arith, within))
      at (first ∷ rest) each zero within is = ap (λ (c : Cut). is_quiet (flags_of config deps c)) is ∙ each.0
      at (first ∷ rest) each (suc number) within is = at rest each.1 number (omega (arith, within)) is
  flags_of_each cuts (Some told) so number cut within is =
      let flags : get_or told number (glue_alone false) ≡ flags_of config deps cut =
      ap (λ (all : List CutFlags). get_or all number (glue_alone false)) so ∙ at cuts number within is in
      record {
        differs = ap (λ (f : CutFlags). f.differs) flags;
        no_glue = ap (λ (f : CutFlags). f.no_glue) flags;
        glue_differs = ap (λ (f : CutFlags). f.glue_differs) flags;
      }
    where
      at : (cuts : List Cut) (number : ℕ) → number < length cuts → cut ≡ get_or cuts number cut → get_or (map (flags_of config deps) cuts) number (glue_alone false) ≡ flags_of config deps cut
      at [] number within is = absurd (omega (arith, within))
      at (first ∷ rest) zero within is = ap (flags_of config deps) (sym is)
      at (first ∷ rest) (suc number) within is = at rest number (omega (arith, within)) is

-- ---- the faults of one referral

-- a name server whose address is known, or that isn't configured, doesn't depend on itself
known_independent : (configured top glue greatest least : Bool) → (top || glue || least) ≡ true → (configured && not top && not glue && greatest && not least) ≡ false
known_independent false top glue greatest least known = refl
known_independent true true glue greatest least known = refl
known_independent true false true greatest least known = refl
known_independent true false false false least known = refl
known_independent true false false true true known = refl
known_independent true false false true false known = cc

unhosted_independent : (configured top glue greatest least : Bool) → configured ≡ false → (configured && not top && not glue && greatest && not least) ≡ false
unhosted_independent false top glue greatest least none = refl
unhosted_independent true top glue greatest least none = cc

-- a sound referral shows no fault
pub sound_shows_none : (config : Config) (deps : Deps) (cut : Cut) → IsSound config deps cut → (fault : Fault) → Contains (referral_faults config deps cut) fault → ⊥
sound_shows_none config deps cut sound fault has =
    each_part config deps cut (λ fault. ⊥) (λ e. true≢false (sym e ∙ sound.same_servers)) (λ e. true≢false (sym e ∙ sound.glued))
    (λ e. true≢false (sym e ∙ sound.same_addresses)) (λ e. true≢false (sym e ∙ sound.independent)) fault has

module _ (config : Config) (deps : Deps) (cut : Cut) (told : CutFlags) (so : AreFlagsBySides config cut told) (independent : depends_on_itself config deps cut ≡ false) where
  -- the faults but that walks end at the name server
  abbrev others : Bool → Bool → Bool → List Fault
  others differs no_glue glue_differs =
      if_shown differs (faults.Differs cut) ++ if_shown no_glue (faults.NoGlue cut) ++ if_shown glue_differs (faults.GlueDiffers cut)

  -- they are those of the referral
  are_all : others told.differs told.no_glue told.glue_differs ++ [] ≡ referral_faults config deps cut
  are_all = λ i. others (so.differs i) (so.no_glue i) (so.glue_differs i) ++ if_shown (sym independent i) (faults.Cyclic cut)

  whole : (lame : Bool) → flag_faults (flags_by told lame) cut ≡ if_shown lame (faults.Lame cut) ++ others told.differs told.no_glue told.glue_differs
  whole lame =
      let a = if_shown lame (faults.Lame cut) in
      let b = if_shown told.differs (faults.Differs cut) in
      let c = if_shown told.no_glue (faults.NoGlue cut) in
      let d = if_shown told.glue_differs (faults.GlueDiffers cut) in
      ap (λ (front : List Fault). front ++ d) (append_assoc a b c) ∙ append_assoc a (b ++ c) d

  -- the flags of a referral, and whether walks end behind it, are its faults
  pub are_flags : (lame : Bool) → AreFlagsOf config deps cut lame (flags_by told lame)
  are_flags lame =
      record {
        lame_is = refl;
        each = λ fault has.
            subst (λ (all : List Fault). Contains all fault) (sym (whole lame))
            (Contains-append_right (if_shown lame (faults.Lame cut)) (others told.differs told.no_glue told.glue_differs) fault
            (subst (λ (all : List Fault). Contains all fault) (sym are_all ∙ append-nil (others told.differs told.no_glue told.glue_differs)) has));
        only = λ fault has.
            elim (Contains-append_cases (if_shown lame (faults.Lame cut)) (others told.differs told.no_glue told.glue_differs) fault
            (subst (λ (all : List Fault). Contains all fault) (whole lame) has)) [
              | inl here ↦ let one = shown_one lame (faults.Lame cut) fault here in inr (sym one.1, one.0)
              | inr other ↦ inl (subst (λ (all : List Fault). Contains all fault) (sym (append-nil (others told.differs told.no_glue told.glue_differs)) ∙ are_all) other)
            ];
      }

-- ---- its branch

-- one that may be followed for the least set may be followed where that set is
still_known : (top glue least followed : Bool) → (least ≡ true → followed ≡ true) → (top || glue || least) ≡ true → (top || glue || followed) ≡ true
still_known true glue least followed so e = refl
still_known false true least followed so e = refl
still_known false false least followed so e = so e

module _ (config : Config) (deps : Deps) (query : Labels) (cut : Cut) where
  -- a name server that is known while the servers of the least set are followed is known where more are
  known_in : (setting : Setting) → IsSettingOf config deps setting → (rewrites : ℕ) → IsKnownServer (following config rewrites deps.least) cut → IsKnownServer setting cut
  known_in setting of rewrites known = record { configured = configured; known = followed } where
    configured : is_configured setting.config cut.ns ≡ true
    configured = ap (λ (c : Config). is_configured c cut.ns) of.config_is ∙ known.configured

    followed : may_follow setting.config cut setting.followed ≡ true
    followed =
        still_known (is_top setting.config cut.ns) (has_glue setting.config cut) (list_any (name_eq cut.ns) deps.least) (list_any (name_eq cut.ns) setting.followed)
        (of.follows cut.ns configured)
        (ap (λ (c : Config). may_follow c cut deps.least) of.config_is ∙ known.known)

  -- its address doesn't depend on itself
  pub is_independent : (rewrites : ℕ) → IsKnownServer (following config rewrites deps.least) cut → depends_on_itself config deps cut ≡ false
  is_independent rewrites known =
      known_independent (is_configured config cut.ns) (is_top config cut.ns) (has_glue config cut) (is_among deps.greatest cut.ns) (is_among deps.least cut.ns) known.known

  -- nor does that of one that isn't configured
  pub none_independent : is_configured config cut.ns ≡ false → depends_on_itself config deps cut ≡ false
  none_independent none =
      unhosted_independent (is_configured config cut.ns) (is_top config cut.ns) (has_glue config cut) (is_among deps.greatest cut.ns) (is_among deps.least cut.ns) none

  -- walks go on to a name server that is known and serves a zone at or below the cut
  pub goes_on_to : (rewrites : ℕ) (tree : Bor ZoneTree) (flags : ReferralFlags) → AreFlagsOf config deps cut false flags
      → IsLead (following config rewrites deps.least) cut query (lead.Goes tree)
      → IsReferral config deps query cut (referral.GoesOn flags)
  goes_on_to rewrites tree flags are leads = (are, λ setting above of. goes setting above of) where
    to : Option Labels → State
    to origin = record { server = cut.ns; name = query; carried = true; cut = length cut.cut; used = 0; last = None; zone = origin }

    goes : (setting : Setting) (above : ℕ) → IsSettingOf config deps setting
        → referred setting (state_at config query cut.server above) cut ≡ Go (Refer cut) (state_at config query cut.ns (length cut.cut))
    goes setting above of =
        refers_by setting (state_at config query cut.server above) cut (lead.Goes tree)
        (known_in setting of rewrites leads.0, ap (λ (c : Config). nearest_of c cut.ns query) of.config_is ∙ leads.1, leads.2)
        ∙ ap (λ (z : Option Zone). Go (Refer cut) (to (option_map (λ (z : Zone). z.origin) z))) (sym leads.1)

  -- walks end at one that is known and serves none
  pub ends_lame : (rewrites : ℕ) (told : CutFlags) → AreFlagsOf config deps cut true (flags_by told true)
      → IsLead (following config rewrites deps.least) cut query lead.Lame → IsReferral config deps query cut (referral.Ends (flags_by told true))
  ends_lame rewrites told are leads = (
    are,
    λ setting above of.
        refers_by setting (state_at config query cut.server above) cut lead.Lame
        (known_in setting of rewrites leads.0, λ zone near. leads.1 zone (ap (λ (c : Config). nearest_of c cut.ns query) (sym of.config_is) ∙ near)),
  )

  -- and at one that isn't configured
  pub ends_unhosted : (flags : ReferralFlags) → AreFlagsOf config deps cut false flags → is_configured config cut.ns ≡ false → IsReferral config deps query cut (referral.Ends flags)
  ends_unhosted flags are none = (
    subst (λ (lame : Bool). AreFlagsOf config deps cut lame flags) (sym are.lame_is) are,
    λ setting above of.
        refers_by setting (state_at config query cut.server above) cut lead.Unhosted (ap (λ (c : Config). is_configured c cut.ns) of.config_is ∙ none)
        ∙ ap (λ (lame : Bool). End (Some (Refer cut)) (outer_leaf lame cut.ns)) (sym are.lame_is),
  )
