use Rattle.std.proofs.Common.{◌≡◌, ◌∙◌, true, Bor, List, map, flat_map, All, ap, subst, sym}
use Rattle.std.proofs.lemmas.Result.{on_ok_weaker, IfErr-weaker}
use Rattle.dns_data.specs.Name.{Labels, is_among}
use Rattle.net_model.specs.declared.config.Zone.{Zone}
use Rattle.net_model.proofs.Naming.{from_listed}
use Rattle.part_names.specs.declared.names.PartNames.{PartNames}
use Rattle.part_checks.specs.Outside.{parent, zone_names}
use Rattle.part_checks.specs.Parts.{held_by}
use Rattle.part_checks.specs.Rules.{Keeps}
use Rattle.part_checks.specs.declared.fault.PartRule.TheVariants.{Met}
use Rattle.part_checks.proofs.LeftWhole.{apart_claimed, based_names, kept_all, led_claimed, met_claimed, short_claimed}
use Rattle.part_checks.proofs.Refusals.{refused_by, refuted_by}
use Rattle.part_checks.proofs.part.check_part.Goals as goal

-- zones that are listed one after another
listed : (seen items : List (Bor Zone)) (all : List Zone) → seen ≡ items → map (λ (zone : Bor Zone). zone.now) items ≡ all → map (λ (zone : Bor Zone). zone.now) seen ≡ all
listed seen items all same is = ap (map (λ (zone : Bor Zone). zone.now)) same ∙ is

pub returns-in_err-check_met-clause-refused : goal.returns-in_err-check_met-clause-refused
returns-in_err-check_met-clause-refused c = λ whole is.
    let names = c.args.sets.now in
    let items = c.as_slice-zones.result.now in
    let are = listed items _ _ c.as_slice-zones.ensures.value c.in_ok-of_left.ensures in
    let held = c.items.ensures ∙ ap (λ (n : PartNames). n.held) c.names.ensures in
    refused_by _ (Keeps whole names) c.from_residual-in_err-check_met.result c.in_err-check_met.field-0.0 c.from_residual-in_err-check_met.ensures.1
    (λ rule keeps. subst (All (λ (name : Labels). Met ≡ rule → is_among (flat_map (λ (zone : Bor Zone). zone_names zone.now) items) name ≡ true)) (sym held)
    (met_claimed names c.args.outside.now whole c.args.left.now is items are rule keeps)) c.in_err-check_met.ensures.refused

pub returns-in_err-check_targets-clause-refused : goal.returns-in_err-check_targets-clause-refused
returns-in_err-check_targets-clause-refused c = λ whole is.
    let names = c.args.sets.now in
    let items = c.as_slice-zones.result.now in
    let are = listed items _ _ c.as_slice-zones.ensures.value c.in_ok-of_left.ensures in
    refused_by _ (Keeps whole names) c.from_residual-in_err-check_targets.result c.in_err-check_targets.field-0.0 c.from_residual-in_err-check_targets.ensures.1
    (λ rule keeps. led_claimed names c.args.outside.now whole c.args.left.now is items are rule keeps) c.in_err-check_targets.ensures.refused

pub returns-in_err-check_apart-clause-refused : goal.returns-in_err-check_apart-clause-refused
returns-in_err-check_apart-clause-refused c = λ whole is.
    let names = c.args.sets.now in
    let items = c.as_slice-zones.result.now in
    let are = listed items _ _ c.as_slice-zones.ensures.value c.in_ok-of_left.ensures in
    refused_by _ (Keeps whole names) c.from_residual-in_err-check_apart.result c.in_err-check_apart.field-0.0 c.from_residual-in_err-check_apart.ensures.1
    (λ rule keeps. apart_claimed names c.args.outside.now whole c.args.left.now is items are rule keeps) c.in_err-check_apart.ensures.refused

pub check_short-requires : goal.check_short-requires
check_short-requires c = λ name has.
    let names = c.args.sets.now in
    let items = c.as_slice-zones.result.now in
    let are = listed items _ _ c.as_slice-zones.ensures.value c.in_ok-of_left.ensures in
    let held = c.items.ensures ∙ ap (λ (n : PartNames). n.held) c.names.ensures in
    based_names c.args.left.now items are names.held
    (subst (All (λ (one : Labels). is_among (flat_map (λ (zone : Bor Zone). zone_names zone.now) items) one ≡ true)) held c.in_ok-check_met.ensures.met)
    (parent name) (from_listed (held_by names) (parent name) (c.requires name has))

pub returns-clause-kept : goal.returns-clause-kept
returns-clause-kept c = λ whole is.
    let names = c.args.sets.now in
    let items = c.as_slice-zones.result.now in
    let are = listed items _ _ c.as_slice-zones.ensures.value c.in_ok-of_left.ensures in
    let held = c.items.ensures ∙ ap (λ (n : PartNames). n.held) c.names.ensures in
    on_ok_weaker c.check_short.result
    (kept_all names c.args.outside.now whole c.args.left.now is items are
    (subst (All (λ (one : Labels). is_among (flat_map (λ (zone : Bor Zone). zone_names zone.now) items) one ≡ true)) held c.in_ok-check_met.ensures.met)
    c.in_ok-check_targets.ensures.led c.in_ok-check_apart.ensures.apart) c.check_short.ensures.longer

pub returns-clause-refused : goal.returns-clause-refused
returns-clause-refused c = λ whole is.
    let names = c.args.sets.now in
    let items = c.as_slice-zones.result.now in
    let are = listed items _ _ c.as_slice-zones.ensures.value c.in_ok-of_left.ensures in
    IfErr-weaker c.check_short.result _ _
    (λ fault refuted. refuted_by _ (Keeps whole names) fault (λ rule keeps. short_claimed names c.args.outside.now whole c.args.left.now is items are rule keeps) refuted) c.check_short.ensures.refused
