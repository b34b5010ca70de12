-- The faults that are found on one walk are those that it shows by itself.
use Rattle.std.proofs.Common.{◌≡◌, ◌↔◌, true, [], ◌∷◌, refl, sym, ◌∙◌, inl, inr, true≢false}
use Rattle.std.specs.Prelude.{Contains}
use Rattle.std.specs.List.{flat_map}
use Rattle.std.proofs.lemmas.Bool.{not-true, not_from_false, false_from_ne_true}
use Rattle.std.proofs.lemmas.List.Elements.{Contains-append_cases, Contains-append_left, Contains-append_right}
use Rattle.dns_data.specs.Name.{Labels, is_prefix, is_among}
use Rattle.dns_data.specs.declared.rr_type.RrType.{RrType}
use Rattle.dns_data.proofs.Membership.{none_in_nil, flat_map_has, from_flat_map}
use Rattle.graph_form.specs.EndFaults.{if_picked, is_of_end, is_shown, walk_fault}
use Rattle.graph_form.specs.Trails.{ZonesShow}
use Rattle.graph_form.proofs.EndsShown.{is_picked, picked_is}
use Rattle.graph_form.proofs.ShownKinds.{end_tells, end_told}
use Rattle.graph_form.proofs.Taking.{shown, taken}
use Rattle.net_model.specs.Shown.{DependsOnItself, Refers, WalksShow, with_lists, with_sets}
use Rattle.net_model.specs.Step.{Setting}
use Rattle.net_model.specs.Walk.{IsWalk}
use Rattle.net_model.specs.declared.deps.Deps.{Deps}
use Rattle.net_model.specs.declared.fault.Fault.{Fault}
use Rattle.net_model.specs.declared.fault.Fault.TheVariants as faults
use Rattle.net_model.specs.declared.place.Cut.{Cut}
use Rattle.net_model.specs.declared.walk.Hop.{Hop}
use Rattle.net_model.specs.declared.walk.Hop.TheVariants.{Refer, Rewrite}
use Rattle.net_model.specs.declared.walk.Walk.{Walk}
use Rattle.net_model.proofs.LearntSets.{in_least, in_greatest}
use Rattle.net_model.proofs.Naming.{from_listed, is_listed}
use Rattle.zone_lookup.specs.ReferralFaults.{cut_faults, hop_faults}
use Rattle.zone_lookup.proofs.ReferralParts.{each_part, from_cut, has_cyclic, has_differs, has_no_glue, has_other_glue, in_cut}
use Rattle.zone_lookup.proofs.ZonesTell.{cyclic_told, differ_told, glue_told, other_addresses, told_addresses, told_cyclic, told_differ, told_glue}
use Rattle.report_check.specs.Entries.{HasLearntNames}
use Rattle.report_check.specs.WalkFaults.{walk_faults}
use Rattle.report_check.proofs.HopsInside.{refers_inside}

module _ (setting : Setting) (deps : Deps) (learnt : HasLearntNames setting.config setting.rewrites deps) where
  -- ---- the lists stand for the sets

  by_sets : (cut : Cut) → DependsOnItself (with_lists setting deps.least deps.greatest) cut → DependsOnItself (with_sets setting) cut
  by_sets cut depends =
      record {
        configured = depends.configured;
        no_top = depends.no_top;
        no_glue = depends.no_glue;
        learnt_at_most = (in_greatest setting.config setting.rewrites deps.greatest learnt.greatest cut.ns).1 depends.learnt_at_most;
        not_at_least = λ is. depends.not_at_least ((in_least setting.config setting.rewrites deps.least learnt.least cut.ns).0 is);
      }

  by_lists : (cut : Cut) → DependsOnItself (with_sets setting) cut → DependsOnItself (with_lists setting deps.least deps.greatest) cut
  by_lists cut depends =
      record {
        configured = depends.configured;
        no_top = depends.no_top;
        no_glue = depends.no_glue;
        learnt_at_most = (in_greatest setting.config setting.rewrites deps.greatest learnt.greatest cut.ns).0 depends.learnt_at_most;
        not_at_least = λ is. depends.not_at_least ((in_least setting.config setting.rewrites deps.least learnt.least cut.ns).1 is);
      }

  module _ (walk : Walk) where
    -- the walk shows the fault by itself
    abbrev Shown : Fault → Type 0
    Shown fault = WalksShow (with_sets setting) (walk ∷ []) fault

    -- ---- what is found is shown

    of_hop : (hop : Hop) (fault : Fault) → Contains walk.hops hop → Contains (hop_faults setting.config deps hop) fault → Shown fault
    of_hop (Rewrite place by_dname to) fault refers has = absurd (none_in_nil fault has)
    of_hop (Refer cut) fault refers has =
        each_part setting.config deps cut Shown
        (λ e. let zones = differ_told setting.config cut e in record { refers = refers; zones = zones })
        (λ e. let wants = glue_told setting.config cut e in record { refers = refers; wants = wants })
        (λ e. let glue = other_addresses setting.config cut e in record { refers = refers; glue = glue })
        (λ e. let depends = by_sets cut (cyclic_told setting deps cut e) in record { refers = refers; depends = depends })
        fault (from_cut setting.config deps cut fault has)

    -- what is picked of ends the two sets show
    zones_show : (fault : Fault) → is_shown deps fault ≡ true → ZonesShow (with_sets setting) fault
    zones_show (faults.NoAddress cut) e = λ among.
        true≢false (sym (is_listed deps.greatest cut.ns ((in_greatest setting.config setting.rewrites deps.greatest learnt.greatest cut.ns).0 among))
        ∙ not-true (is_among deps.greatest cut.ns) e)
    zones_show (faults.Lame cut) e = tt
    zones_show (faults.Limit place) e = tt
    zones_show (faults.Blackhole place) e = tt
    zones_show (faults.Overlong place) e = tt
    zones_show fault e = cc

    found_shown : (fault : Fault) → Contains (walk_faults setting.config deps walk) fault → Shown fault
    found_shown fault has =
        elim (Contains-append_cases (flat_map (hop_faults setting.config deps) walk.hops) (if_picked (is_shown deps) (walk_fault walk)) fault has) [
          | inl of_hops ↦ (
              let from = from_flat_map (hop_faults setting.config deps) walk.hops fault of_hops in
              of_hop from.0 fault from.1 from.2)
          | inr at_end ↦ (
              let is = picked_is (is_shown deps) (walk_fault walk) fault at_end in
              shown (with_sets setting) (walk ∷ []) fault (end_told walk fault is.0) (zones_show fault is.1))
        ]

    -- ---- what is shown is found

    by_end : (fault : Fault) → is_of_end fault ≡ true → Shown fault → is_shown deps fault ≡ true → Contains (walk_faults setting.config deps walk) fault
    by_end fault of show is =
        Contains-append_right (flat_map (hop_faults setting.config deps) walk.hops) (if_picked (is_shown deps) (walk_fault walk)) fault
        (is_picked (is_shown deps) (walk_fault walk) fault (end_tells walk fault of (taken (with_sets setting) (walk ∷ []) fault show)) is)

    module _ (query : Labels) (rtype : RrType) (is : IsWalk setting query rtype walk) where
      by_referral : (cut : Cut) (fault : Fault) → Refers walk cut → (is_prefix cut.zone cut.cut ≡ true → Contains (cut_faults setting.config deps cut) fault)
          → Contains (walk_faults setting.config deps walk) fault
      by_referral cut fault refers has =
          Contains-append_left (flat_map (hop_faults setting.config deps) walk.hops) (if_picked (is_shown deps) (walk_fault walk)) fault
          (flat_map_has (hop_faults setting.config deps) walk.hops (Refer cut) fault refers (has (refers_inside setting rtype query walk cut is refers)))

      shown_found : (fault : Fault) → Shown fault → Contains (walk_faults setting.config deps walk) fault
      shown_found (faults.Differs cut) show =
          by_referral cut (faults.Differs cut) show.refers
          (λ inside. in_cut setting.config deps cut inside (faults.Differs cut) (has_differs setting.config deps cut (told_differ setting.config cut show.zones)))
      shown_found (faults.NoGlue cut) show =
          by_referral cut (faults.NoGlue cut) show.refers
          (λ inside. in_cut setting.config deps cut inside (faults.NoGlue cut) (has_no_glue setting.config deps cut (told_glue setting.config cut show.wants)))
      shown_found (faults.GlueDiffers cut) show =
          by_referral cut (faults.GlueDiffers cut) show.refers
          (λ inside. in_cut setting.config deps cut inside (faults.GlueDiffers cut) (has_other_glue setting.config deps cut (told_addresses setting.config cut show.glue)))
      shown_found (faults.Cyclic cut) show =
          by_referral cut (faults.Cyclic cut) show.refers
          (λ inside. in_cut setting.config deps cut inside (faults.Cyclic cut) (has_cyclic setting.config deps cut (told_cyclic setting deps cut (by_lists cut show.depends))))
      shown_found (faults.Lame cut) show = by_end (faults.Lame cut) refl show refl
      shown_found (faults.Limit place) show = by_end (faults.Limit place) refl show refl
      shown_found (faults.Blackhole place) show = by_end (faults.Blackhole place) refl show refl
      shown_found (faults.Overlong place) show = by_end (faults.Overlong place) refl show refl
      shown_found (faults.NoAddress cut) show =
          by_end (faults.NoAddress cut) refl show
          (not_from_false (is_among deps.greatest cut.ns) (false_from_ne_true (is_among deps.greatest cut.ns)
          (λ e. show.not_at_most ((in_greatest setting.config setting.rewrites deps.greatest learnt.greatest cut.ns).1 (from_listed deps.greatest cut.ns e)))))
      shown_found (faults.Answers class with_type) show = absurd show

      -- the faults that are found of a walk are those that it shows
      pub faults_told : (fault : Fault) → Contains (walk_faults setting.config deps walk) fault ↔ WalksShow (with_sets setting) (walk ∷ []) fault
      faults_told fault = (found_shown fault, shown_found fault)
