use Rattle.std.proofs.Common.{◌≡◌, true, Some, refl, sym, ap, subst, ◌∙◌}
use Rattle.std.proofs.lemmas.Result.{IfOk-weaker}
use Rattle.dns_data.specs.Name.{Labels, is_prefix}
use Rattle.zone_tree.specs.Tree.{name_of}
use Rattle.zone_lookup.specs.CutFlags.{flags_of}
use Rattle.zone_lookup.specs.CutTable.{cut_to}
use Rattle.zone_lookup.proofs.Glue.{own_above}
use Rattle.zone_lookup.proofs.SoundReferrals.{flags_told, glue_told, unhosted_flags}
use Rattle.zone_lookup.proofs.zone_cuts.flags_to.Goals as goal

pub of_sides-requires-clause-above : goal.of_sides-requires-clause-above
of_sides-requires-clause-above c =
    subst (λ (name : Labels). is_prefix c.args.tree.now.zone.origin name ≡ true) (sym c.name-name.ensures) c.requires.inside

pub of_sides-requires-clause-below : goal.of_sides-requires-clause-below
of_sides-requires-clause-below c = own_above c.in-Some.host.now c.name-name.result.now c.zone_with_origin-below.result c.zone_with_origin-below.ensures

pub returns-in-Some : goal.returns-in-Some
returns-in-Some c =
    let config = c.args.hosts.now in
    let zone = c.args.tree.now.zone in
    IfOk-weaker c.of_sides.result _ _
    (λ flags is server held. is
    ∙ flags_told config c.args.sets.now (cut_to server zone c.name-name.result.now c.args.ns.now) c.in-Some.host.now (Some zone) _
    (sym c.in-Some.ensures) held c.zone_with_origin-below.ensures
    ∙ ap (λ (name : Labels). flags_of config c.args.sets.now (cut_to server zone name c.args.ns.now)) c.name-name.ensures)
    c.of_sides.ensures

pub returns-in-None : goal.returns-in-None
returns-in-None c = λ server held.
    let config = c.args.hosts.now in
    let cut = cut_to server c.args.tree.now.zone (name_of c.args.tree.now c.args.cut) c.args.ns.now in
    c.of_glue.ensures ∙ unhosted_flags config c.args.sets.now cut (sym c.in-None.ensures) c.lacks_glue.result
    (c.lacks_glue.ensures ∙ glue_told config c.args.tree.now c.args.cut cut refl held)
