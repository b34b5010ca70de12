-- The tests of a delegation tell what is asked of the zones.
use Rattle.std.proofs.Common.{◌≡◌, ◌≢◌, Bool, true, false, ◌&&◌, not, ◌==◌, List, [], ◌∷◌, ◌++◌, length, map, refl, sym, ap, ◌∙◌, Some, None, true≢false, arith}
use Rattle.std.specs.Prelude.{Option}
use Rattle.std.specs.List.{filter, filter_map}
use Rattle.std.specs.Cmp.Lexicographic.{pointwise_decides}
use Rattle.std.proofs.lemmas.Bool.{and_from, and_parts, ne_eqb, not-true, not_from_false, false_from_ne_true}
use lib.Pointwise.{pointwise}
use Rattle.dns_data.specs.Name.{Labels, name_cmp, is_prefix, is_among}
use Rattle.dns_data.specs.Rdata.{data_eq}
use Rattle.dns_data.specs.declared.rr_type.RrType.{RrType}
use Rattle.dns_data.specs.declared.rr_type.RrType.TheVariants as types
use Rattle.dns_data.proofs.EqualData.{equal_is_same}
use Rattle.dns_data.proofs.Names.{name_eq_decides}
use Rattle.dns_data.proofs.Searches.{filter_none}
use Rattle.net_model.specs.declared.deps.Deps.{Deps}
use Rattle.net_model.specs.Nearest.{held_zone, is_configured, is_top}
use Rattle.net_model.specs.Order.{in_order}
use Rattle.net_model.specs.Shown.{ZonesDiffer, WantsGlue, AddressesDiffer, DependsOnItself, with_lists}
use Rattle.net_model.specs.Step.{Setting, has_glue}
use Rattle.net_model.specs.Zone.{addresses, data_cmp, exists_in, is_of, ns_names, target_of}
use Rattle.net_model.specs.declared.config.Config.{Config}
use Rattle.net_model.specs.declared.config.Zone.{Zone}
use Rattle.net_model.specs.declared.place.Cut.{Cut}
use Rattle.net_model.proofs.Naming.{from_listed, is_listed}
use Rattle.dns_data.specs.declared.rdata.Rdata.{Rdata}
use Rattle.dns_data.specs.declared.rdata.Rr.{Rr}
use Rattle.zone_lookup.specs.Sides.{addresses_differ, both_differ, glue_of_sides, names_eq, sides_differ, zones_differ}
use Rattle.zone_lookup.specs.Sound.{depends_on_itself, wants_glue}
use Rattle.zone_lookup.proofs.Glue.{missing_owns}

-- ---- lists

-- lists of names that are equal are one
names_decide : (a b : List Labels) → (names_eq a b ≡ true → a ≡ b) × (a ≡ b → names_eq a b ≡ true)
names_decide a b = pointwise_decides name_eq_decides a b

-- lists of data that are equal are one
data_decide : (a b : List Rdata) → (pointwise data_eq a b ≡ true → a ≡ b) × (a ≡ b → pointwise data_eq a b ≡ true)
data_decide a b = pointwise_decides (λ x y. equal_is_same x y) a b

-- lists are compared alike by tests that are alike
pub compared_alike : {X : Type 0} (f g : X → X → Bool) → ((x y : X) → f x y ≡ g x y) → (a b : List X) → pointwise f a b ≡ pointwise g a b
compared_alike f g alike [] [] = refl
compared_alike f g alike [] (y ∷ ys) = refl
compared_alike f g alike (x ∷ xs) [] = refl
compared_alike f g alike (x ∷ xs) (y ∷ ys) = ap (λ b. b && pointwise f xs ys) (alike x y) ∙ ap (λ b. g x y && b) (compared_alike f g alike xs ys)

-- ---- a name that isn't in the zone

module _ (zone : Zone) (name : Labels) (inside : is_prefix zone.origin name ≡ true) (missing : exists_in zone name ≡ false) where
  none_of : (rtype : RrType) → filter (is_of name rtype) zone.rrs ≡ []
  none_of rtype = filter_none (is_of name rtype) zone.rrs (missing_owns zone name rtype inside missing)

  -- a name that doesn't exist in the zone has no name servers there
  pub none_listed : [] ≡ ns_names zone name
  none_listed = sym (ap (λ (rrs : List Rr). in_order name_cmp (filter_map target_of (map (λ (rr : Rr). rr.rdata) rrs))) (none_of types.Ns))

  -- a name that doesn't exist in the zone has no addresses there
  pub no_addresses : [] ≡ addresses zone name
  no_addresses =
      sym (ap (λ (rrs : List Rr). in_order data_cmp (map (λ (rr : Rr). rr.rdata) rrs ++ map (λ (rr : Rr). rr.rdata) (filter (is_of name types.Aaaa) zone.rrs))) (none_of types.A)
      ∙ ap (λ (rrs : List Rr). in_order data_cmp (map (λ (rr : Rr). rr.rdata) rrs)) (none_of types.Aaaa))

-- ---- what the zones show

-- where the test says that the zones at both sides of a cut differ, they do
pub differ_told : (config : Config) (cut : Cut) → zones_differ config cut ≡ true → ZonesDiffer config cut
differ_told config cut e = by (held_zone config cut.server cut.zone) refl (held_zone config cut.ns cut.cut) refl e where
  by : (one : Option Zone) → held_zone config cut.server cut.zone ≡ one → (other : Option Zone) → held_zone config cut.ns cut.cut ≡ other
      → sides_differ cut.cut one other ≡ true → ZonesDiffer config cut
  by None is other also e = cc
  by (Some above) is None also e = cc
  by (Some above) is (Some below) also e =
      record {
        sides = record { above = above; below = below; refers = is; serves = also };
        differ = λ same. true≢false (sym ((names_decide (ns_names above cut.cut) (ns_names below cut.cut)).1 same)
            ∙ not-true (names_eq (ns_names above cut.cut) (ns_names below cut.cut)) e);
      }

-- where the zones at both sides of a cut differ, the test says so
pub told_differ : (config : Config) (cut : Cut) → ZonesDiffer config cut → zones_differ config cut ≡ true
told_differ config cut zones =
    ap (λ one. sides_differ cut.cut one (held_zone config cut.ns cut.cut)) zones.sides.refers
    ∙ (ap (sides_differ cut.cut (Some zones.sides.above)) zones.sides.serves
    ∙ not_from_false (names_eq (ns_names zones.sides.above cut.cut) (ns_names zones.sides.below cut.cut))
    (false_from_ne_true (names_eq (ns_names zones.sides.above cut.cut) (ns_names zones.sides.below cut.cut))
    (λ e. zones.differ ((names_decide (ns_names zones.sides.above cut.cut) (ns_names zones.sides.below cut.cut)).0 e))))

-- data that aren't the same and are there
both_told : (above below : List Rdata) → both_differ above below ≡ true → (above ≢ []) × (below ≢ []) × (above ≢ below)
both_told above below e =
    let two = and_parts (not (length above == 0) && not (length below == 0)) (not (pointwise data_eq above below)) e in
    let one = and_parts (not (length above == 0)) (not (length below == 0)) two.0 in (
      (λ none. true≢false (sym one.0 ∙ ap (λ (xs : List Rdata). not (length xs == 0)) none)),
      (λ none. true≢false (sym one.1 ∙ ap (λ (xs : List Rdata). not (length xs == 0)) none)),
      (λ same. true≢false (sym ((data_decide above below).1 same) ∙ not-true (pointwise data_eq above below) two.1)),
    )

some_there : (xs : List Rdata) → xs ≢ [] → not (length xs == 0) ≡ true
some_there [] some = absurd (some refl)
some_there (x ∷ xs) some = ap not (ne_eqb (length (x ∷ xs)) 0 (λ e. absurd (omega (arith, e))))

told_both : (above below : List Rdata) → above ≢ [] → below ≢ [] → above ≢ below → both_differ above below ≡ true
told_both above below some others differ =
    and_from (not (length above == 0) && not (length below == 0)) (not (pointwise data_eq above below))
    (and_from (not (length above == 0)) (not (length below == 0)) (some_there above some) (some_there below others))
    (not_from_false (pointwise data_eq above below) (false_from_ne_true (pointwise data_eq above below) (λ e. differ ((data_decide above below).0 e))))

-- where the test says that the addresses at both sides of a cut differ, they do
pub other_addresses : (config : Config) (cut : Cut) → addresses_differ config cut ≡ true → AddressesDiffer config cut
other_addresses config cut e =
    let parts = and_parts (is_prefix cut.cut cut.ns) (glue_of_sides cut.ns (held_zone config cut.server cut.zone) (held_zone config cut.ns cut.cut)) e in
    by parts.0 (held_zone config cut.server cut.zone) refl (held_zone config cut.ns cut.cut) refl parts.1
  where
    by : is_prefix cut.cut cut.ns ≡ true → (one : Option Zone) → held_zone config cut.server cut.zone ≡ one → (other : Option Zone)
        → held_zone config cut.ns cut.cut ≡ other → glue_of_sides cut.ns one other ≡ true → AddressesDiffer config cut
    by inside None is other also e = cc
    by inside (Some above) is None also e = cc
    by inside (Some above) is (Some below) also e =
        let three = both_told (addresses above cut.ns) (addresses below cut.ns) e in
        record {
          inside = inside;
          sides = record { above = above; below = below; refers = is; serves = also };
          above = three.0;
          below = three.1;
          differ = three.2;
        }

-- where the addresses at both sides of a cut differ, the test says so
pub told_addresses : (config : Config) (cut : Cut) → AddressesDiffer config cut → addresses_differ config cut ≡ true
told_addresses config cut zones =
    and_from (is_prefix cut.cut cut.ns) (glue_of_sides cut.ns (held_zone config cut.server cut.zone) (held_zone config cut.ns cut.cut)) zones.inside
    (ap (λ one. glue_of_sides cut.ns one (held_zone config cut.ns cut.cut)) zones.sides.refers
    ∙ (ap (glue_of_sides cut.ns (Some zones.sides.above)) zones.sides.serves
    ∙ told_both (addresses zones.sides.above cut.ns) (addresses zones.sides.below cut.ns) zones.above zones.below zones.differ))

-- where the test says that a delegation wants glue, it does
pub glue_told : (config : Config) (cut : Cut) → wants_glue config cut ≡ true → WantsGlue config cut
glue_told config cut e =
    let parts = and_parts (is_prefix cut.cut cut.ns) (not (has_glue config cut)) e in
    record { inside = parts.0; no_glue = not-true (has_glue config cut) parts.1 }

-- where a delegation wants glue, the test says so
pub told_glue : (config : Config) (cut : Cut) → WantsGlue config cut → wants_glue config cut ≡ true
told_glue config cut wants =
    and_from (is_prefix cut.cut cut.ns) (not (has_glue config cut)) wants.inside (not_from_false (has_glue config cut) wants.no_glue)

module _ (setting : Setting) (deps : Deps) (cut : Cut) where
  -- where the test says that a delegation depends on itself, it does
  pub cyclic_told : depends_on_itself setting.config deps cut ≡ true → DependsOnItself (with_lists setting deps.least deps.greatest) cut
  cyclic_told e =
      let four = and_parts (is_configured setting.config cut.ns && not (is_top setting.config cut.ns) && not (has_glue setting.config cut) && is_among deps.greatest cut.ns) (not (is_among deps.least cut.ns)) e in
      let three = and_parts (is_configured setting.config cut.ns && not (is_top setting.config cut.ns) && not (has_glue setting.config cut)) (is_among deps.greatest cut.ns) four.0 in
      let two = and_parts (is_configured setting.config cut.ns && not (is_top setting.config cut.ns)) (not (has_glue setting.config cut)) three.0 in
      let one = and_parts (is_configured setting.config cut.ns) (not (is_top setting.config cut.ns)) two.0 in
      record {
        configured = one.0;
        no_top = not-true (is_top setting.config cut.ns) one.1;
        no_glue = not-true (has_glue setting.config cut) two.1;
        learnt_at_most = from_listed deps.greatest cut.ns three.1;
        not_at_least = λ has. true≢false (sym (is_listed deps.least cut.ns has) ∙ not-true (is_among deps.least cut.ns) four.1);
      }

  -- where a delegation depends on itself, the test says so
  pub told_cyclic : DependsOnItself (with_lists setting deps.least deps.greatest) cut → depends_on_itself setting.config deps cut ≡ true
  told_cyclic depends =
      and_from (is_configured setting.config cut.ns && not (is_top setting.config cut.ns) && not (has_glue setting.config cut) && is_among deps.greatest cut.ns) (not (is_among deps.least cut.ns))
      (and_from (is_configured setting.config cut.ns && not (is_top setting.config cut.ns) && not (has_glue setting.config cut)) (is_among deps.greatest cut.ns)
      (and_from (is_configured setting.config cut.ns && not (is_top setting.config cut.ns)) (not (has_glue setting.config cut))
      (and_from (is_configured setting.config cut.ns) (not (is_top setting.config cut.ns)) depends.configured (not_from_false (is_top setting.config cut.ns) depends.no_top))
      (not_from_false (has_glue setting.config cut) depends.no_glue)) (is_listed deps.greatest cut.ns depends.learnt_at_most))
      (not_from_false (is_among deps.least cut.ns) (false_from_ne_true (is_among deps.least cut.ns) (λ e. depends.not_at_least (from_listed deps.least cut.ns e))))
