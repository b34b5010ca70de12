-- A local query shows the same faults in the whole and in what is left.
use Rattle.std.proofs.Common.{◌≡◌, ℕ, List, [], ◌∷◌, Contains, Option, Some, None, sym, refl, ap, subst, ◌∙◌}
use Rattle.std.specs.Prelude.{◌↔◌, option_map}
use Rattle.std.specs.List.{AllByRecursion}
use Rattle.dns_data.specs.Name.{Labels}
use Rattle.dns_data.specs.declared.rr_type.RrType.{RrType}
use Rattle.dns_data.proofs.Names.{all_so}
use Rattle.net_model.specs.declared.config.Config.{Config}
use Rattle.net_model.specs.declared.config.Zone.{Zone}
use Rattle.net_model.specs.declared.fault.Fault.{Fault}
use Rattle.net_model.specs.declared.fault.Fault.TheVariants as faults
use Rattle.net_model.specs.declared.place.Cut.{Cut}
use Rattle.net_model.specs.declared.walk.Hop.TheVariants.{Refer}
use Rattle.net_model.specs.declared.walk.Walk.{Walk}
use Rattle.net_model.specs.declared.walk.Leaf.TheVariants as leaves
use Rattle.net_model.specs.Reading.{zones}
use Rattle.net_model.specs.Nearest.{held_zone}
use Rattle.net_model.specs.Shown.{with_sets, BothSides, ZonesDiffer, WantsGlue, AddressesDiffer, DependsOnItself, MayShow, WalksShow, ShowsIn}
use Rattle.net_model.specs.Step.{following}
use Rattle.net_model.specs.Walk.{IsWalk}
use Rattle.net_model.specs.Zone.{ns_names, addresses}
use Rattle.net_model.proofs.InForce.{some_in_force}
use Rattle.part_laws.specs.Part.{restricted_zone, restricted, IsLocal, IsPart}
use Rattle.part_laws.proofs.ClassesAlike.{class_alike, represents_alike}
use Rattle.part_laws.proofs.LearntAlike.{least_alike, in_least_alike, in_greatest_alike}
use Rattle.part_laws.proofs.LookupsAlike.{ns_names_alike, addresses_alike}
use Rattle.part_laws.proofs.QueriesAlike.{is_walk_alike, walk_local, referral_local}
use Rattle.part_laws.proofs.StepsAlike.{IsCutLocal, IsLeafLocal, glue_alike}
use Rattle.part_laws.proofs.ZonesAlike.{held_zone_alike, held_zone_there, configured_alike}

-- the item of which a mapped one is the image
from_mapped : {A B : Type 0} (f : A → B) (o : Option A) (y : B) → option_map f o ≡ Some y → (x : A) × (o ≡ Some x) × (f x ≡ y)
from_mapped f None y e = cc
from_mapped f (Some x) y e = (x, refl, cc)

module _ (config : Config) (names : List Labels) (part : IsPart config names) where
  -- what is left of the configuration
  abbrev left : Config
  left = restricted names config

  -- ---- the zones and the name server of a referral

  module _ (cut : Cut) (local : IsCutLocal config names cut) where
    -- a zone of one side, whose origin is local, is what is left of it
    record SideLeft (server origin : Labels) (y : Zone) : Type 0 where
      pub zone : Zone
      pub of_config : Contains (zones config) zone
      pub holds : held_zone config server origin ≡ Some zone
      pub is : restricted_zone names zone ≡ y

    from_side : (server origin : Labels) (y : Zone) → IsLocal config names origin → held_zone left server origin ≡ Some y → SideLeft server origin y
    from_side server origin y local e =
        let (zone, holds, is) = from_mapped (restricted_zone names) (held_zone config server origin) y (sym (held_zone_alike config names server origin local) ∙ e) in
        record { zone = zone; of_config = (held_zone_there config names server origin zone holds).0; holds = holds; is = is }

    to_side : (server origin : Labels) (zone : Zone) → IsLocal config names origin → held_zone config server origin ≡ Some zone
        → held_zone left server origin ≡ Some (restricted_zone names zone)
    to_side server origin zone local e = held_zone_alike config names server origin local ∙ ap (option_map (restricted_zone names)) e

    abbrev sides_left : BothSides config cut → BothSides left cut
    sides_left sides =
        record {
          above = restricted_zone names sides.above;
          below = restricted_zone names sides.below;
          refers = to_side cut.server cut.zone sides.above local.zone_is sides.refers;
          serves = to_side cut.ns cut.cut sides.below local.cut_is sides.serves;
        }

    abbrev above_of : (sides : BothSides left cut) → SideLeft cut.server cut.zone sides.above
    above_of sides = from_side cut.server cut.zone sides.above local.zone_is sides.refers

    abbrev below_of : (sides : BothSides left cut) → SideLeft cut.ns cut.cut sides.below
    below_of sides = from_side cut.ns cut.cut sides.below local.cut_is sides.serves

    abbrev sides_whole : BothSides left cut → BothSides config cut
    sides_whole sides =
        record { above = (above_of sides).zone; below = (below_of sides).zone; refers = (above_of sides).holds; serves = (below_of sides).holds }

    -- what local names own is the same on both sides
    listed_left : (server origin : Labels) (y : Zone) (side : SideLeft server origin y) → ns_names y cut.cut ≡ ns_names side.zone cut.cut
    listed_left server origin y side =
        ap (λ (z : Zone). ns_names z cut.cut) (sym side.is) ∙ ns_names_alike config names part side.zone side.of_config cut.cut local.cut_is

    addresses_left : (server origin : Labels) (y : Zone) (side : SideLeft server origin y) → IsLocal config names cut.ns → addresses y cut.ns ≡ addresses side.zone cut.ns
    addresses_left server origin y side ns =
        ap (λ (z : Zone). addresses z cut.ns) (sym side.is) ∙ addresses_alike config names part side.zone side.of_config cut.ns ns

    -- the two zones list other name servers in both or in neither
    differ_alike : ZonesDiffer left cut ↔ ZonesDiffer config cut
    differ_alike = (
      λ d. record {
        sides = sides_whole d.sides;
        differ = λ e. d.differ (listed_left cut.server cut.zone d.sides.above (above_of d.sides) ∙ e
            ∙ sym (listed_left cut.ns cut.cut d.sides.below (below_of d.sides)));
      },
      λ d. record {
        sides = sides_left d.sides;
        differ = λ e. d.differ
            (sym (ns_names_alike config names part d.sides.above (held_zone_there config names cut.server cut.zone d.sides.above d.sides.refers).0 cut.cut local.cut_is)
            ∙ e ∙ ns_names_alike config names part d.sides.below (held_zone_there config names cut.ns cut.cut d.sides.below d.sides.serves).0 cut.cut local.cut_is);
      },
    )

    -- a name server inside wants glue in both or in neither
    wants_alike : WantsGlue left cut ↔ WantsGlue config cut
    wants_alike = (
      λ wants. record { inside = wants.inside; no_glue = sym (glue_alike config names part cut local) ∙ wants.no_glue },
      λ wants. record { inside = wants.inside; no_glue = glue_alike config names part cut local ∙ wants.no_glue },
    )

    -- both sides hold other addresses in both or in neither
    addresses_differ_alike : AddressesDiffer left cut ↔ AddressesDiffer config cut
    addresses_differ_alike = (
      λ d. (let one = addresses_left cut.server cut.zone d.sides.above (above_of d.sides) (local.inside d.inside) in
          let other = addresses_left cut.ns cut.cut d.sides.below (below_of d.sides) (local.inside d.inside) in
          record {
            inside = d.inside;
            sides = sides_whole d.sides;
            above = λ e. d.above (one ∙ e);
            below = λ e. d.below (other ∙ e);
            differ = λ e. d.differ (one ∙ e ∙ sym other);
          }),
      λ d. (let one = addresses_alike config names part d.sides.above (held_zone_there config names cut.server cut.zone d.sides.above d.sides.refers).0 cut.ns (local.inside d.inside) in
          let other = addresses_alike config names part d.sides.below (held_zone_there config names cut.ns cut.cut d.sides.below d.sides.serves).0 cut.ns (local.inside d.inside) in
          record {
            inside = d.inside;
            sides = sides_left d.sides;
            above = λ e. d.above (sym one ∙ e);
            below = λ e. d.below (sym other ∙ e);
            differ = λ e. d.differ (sym one ∙ e ∙ other);
          }),
    )

    -- the address of the name server depends on itself in both or in neither
    depends_alike : (rewrites : ℕ) (of_whole of_part : List Labels)
        → DependsOnItself (with_sets (following left rewrites of_part)) cut ↔ DependsOnItself (with_sets (following config rewrites of_whole)) cut
    depends_alike rewrites of_whole of_part = (
      λ d. (let configured = sym (configured_alike config names cut.ns) ∙ d.configured in
          let ns = local.asked configured d.no_top in
          record {
            configured = configured;
            no_top = d.no_top;
            no_glue = sym (glue_alike config names part cut local) ∙ d.no_glue;
            learnt_at_most = (in_greatest_alike config names part rewrites cut.ns ns).0 d.learnt_at_most;
            not_at_least = λ least. d.not_at_least ((in_least_alike config names part rewrites cut.ns ns).1 least);
          }),
      λ d. (let ns = local.asked d.configured d.no_top in
          record {
            configured = configured_alike config names cut.ns ∙ d.configured;
            no_top = d.no_top;
            no_glue = glue_alike config names part cut local ∙ d.no_glue;
            learnt_at_most = (in_greatest_alike config names part rewrites cut.ns ns).1 d.learnt_at_most;
            not_at_least = λ least. d.not_at_least ((in_least_alike config names part rewrites cut.ns ns).0 least);
          }),
    )

  -- ---- faults

  module _ (rewrites : ℕ) (query : Labels) (rtype : RrType) (local : IsLocal config names query) where
    -- a local query may show the same faults
    may_alike : (fault : Fault) → MayShow left query rtype fault ↔ MayShow config query rtype fault
    may_alike (faults.Answers class shown_with) = (
      λ (same, of_class). (same, (class_alike config names part query class local).0 of_class),
      λ (same, of_class). (same, (class_alike config names part query class local).1 of_class),
    )
    may_alike (faults.Overlong place) = represents_alike config names part query local
    may_alike fault = (λ may. may, λ may. may)

    module _ (of_whole of_part : List Labels) where
      -- a walk of the query in the whole shows the same faults in both
      one_shows : (walk : Walk) → IsWalk (following config rewrites of_whole) query rtype walk → (fault : Fault)
          → WalksShow (with_sets (following left rewrites of_part)) (walk ∷ []) fault ↔ WalksShow (with_sets (following config rewrites of_whole)) (walk ∷ []) fault
      one_shows walk is (faults.Differs cut) =
          let at = λ (refers : Contains walk.hops (Refer cut)). differ_alike cut (referral_local config names part rewrites of_whole query rtype walk cut local is refers) in (
            λ shows. record { refers = shows.refers; zones = (at shows.refers).0 shows.zones },
            λ shows. record { refers = shows.refers; zones = (at shows.refers).1 shows.zones },
          )
      one_shows walk is (faults.NoGlue cut) =
          let at = λ (refers : Contains walk.hops (Refer cut)). wants_alike cut (referral_local config names part rewrites of_whole query rtype walk cut local is refers) in (
            λ shows. record { refers = shows.refers; wants = (at shows.refers).0 shows.wants },
            λ shows. record { refers = shows.refers; wants = (at shows.refers).1 shows.wants },
          )
      one_shows walk is (faults.GlueDiffers cut) =
          let at = λ (refers : Contains walk.hops (Refer cut)). addresses_differ_alike cut (referral_local config names part rewrites of_whole query rtype walk cut local is refers) in (
            λ shows. record { refers = shows.refers; glue = (at shows.refers).0 shows.glue },
            λ shows. record { refers = shows.refers; glue = (at shows.refers).1 shows.glue },
          )
      one_shows walk is (faults.Cyclic cut) =
          let at = λ (refers : Contains walk.hops (Refer cut)). depends_alike cut (referral_local config names part rewrites of_whole query rtype walk cut local is refers) rewrites of_whole of_part in (
            λ shows. record { refers = shows.refers; depends = (at shows.refers).0 shows.depends },
            λ shows. record { refers = shows.refers; depends = (at shows.refers).1 shows.depends },
          )
      one_shows walk is (faults.NoAddress cut) =
          let ns = λ (ends : walk.leaf ≡ leaves.NoAddress cut.ns). subst (IsLeafLocal config names) ends (walk_local config names part rewrites of_whole query rtype walk local is).leaf in (
            λ shows. record {
              behind = shows.behind;
              ends = shows.ends;
              not_at_most = λ greatest. shows.not_at_most ((in_greatest_alike config names part rewrites cut.ns (ns shows.ends)).1 greatest);
            },
            λ shows. record {
              behind = shows.behind;
              ends = shows.ends;
              not_at_most = λ greatest. shows.not_at_most ((in_greatest_alike config names part rewrites cut.ns (ns shows.ends)).0 greatest);
            },
          )
      one_shows walk is fault = (λ shows. shows, λ shows. shows)

      two_show : (one other : Walk) (fault : Fault)
          → WalksShow (with_sets (following left rewrites of_part)) (one ∷ other ∷ []) fault
          ↔ WalksShow (with_sets (following config rewrites of_whole)) (one ∷ other ∷ []) fault
      two_show one other (faults.Answers class shown_with) = (λ shows. shows, λ shows. shows)
      two_show one other fault = (λ shows. shows, λ shows. shows)

      -- walks of the query in the whole show the same faults in both
      pub walks_show_alike : (walks : List Walk) → AllByRecursion (IsWalk (following config rewrites of_whole) query rtype) walks → (fault : Fault)
          → WalksShow (with_sets (following left rewrites of_part)) walks fault ↔ WalksShow (with_sets (following config rewrites of_whole)) walks fault
      walks_show_alike [] are fault = (λ shows. shows, λ shows. shows)
      walks_show_alike (walk ∷ []) are fault = one_shows walk are.0 fault
      walks_show_alike (one ∷ other ∷ []) are fault = two_show one other fault
      walks_show_alike (one ∷ other ∷ third ∷ walks) are fault = (λ shows. shows, λ shows. shows)

    -- a local query shows the same faults in the whole and in what is left
    pub shown_alike : (fault : Fault) → ShowsIn left rewrites query rtype fault ↔ ShowsIn config rewrites query rtype fault
    shown_alike fault = (
      λ shown. (let (followed, in_force) = some_in_force config rewrites in
          let alike = least_alike config names part rewrites followed shown.followed in_force shown.in_force in
          let by = shown.shows.by in
          let are : AllByRecursion (IsWalk (following config rewrites followed) query rtype) shown.shows.walks =
          all_so (IsWalk (following left rewrites shown.followed) query rtype) (IsWalk (following config rewrites followed) query rtype) shown.shows.walks
          (λ walk is. (is_walk_alike config names part rewrites followed shown.followed alike query rtype walk local).0 is) by.are_walks in
          record {
            followed = followed;
            in_force = in_force;
            shows = record {
              walks = shown.shows.walks;
              by = record {
                may = (may_alike fault).0 by.may;
                are_walks = are;
                show = (walks_show_alike followed shown.followed shown.shows.walks are fault).0 by.show;
              };
            };
          }),
      λ shown. (let (followed, in_force) = some_in_force left rewrites in
          let alike = least_alike config names part rewrites shown.followed followed shown.in_force in_force in
          let by = shown.shows.by in
          record {
            followed = followed;
            in_force = in_force;
            shows = record {
              walks = shown.shows.walks;
              by = record {
                may = (may_alike fault).1 by.may;
                are_walks = all_so (IsWalk (following config rewrites shown.followed) query rtype) (IsWalk (following left rewrites followed) query rtype) shown.shows.walks
                    (λ walk is. (is_walk_alike config names part rewrites shown.followed followed alike query rtype walk local).1 is) by.are_walks;
                show = (walks_show_alike shown.followed followed shown.shows.walks by.are_walks fault).1 by.show;
              };
            };
          }),
    )
