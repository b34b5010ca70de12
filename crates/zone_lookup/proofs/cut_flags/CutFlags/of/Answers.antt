use Rattle.std.proofs.Common.{◌∙◌, sym}
use Rattle.std.proofs.lemmas.Result.{IfOk-weaker}
use Rattle.zone_lookup.specs.LentCut.{cut_of}
use Rattle.zone_lookup.proofs.Glue.{held_above, own_above}
use Rattle.zone_lookup.proofs.SoundReferrals.{flags_told, unhosted_flags}
use Rattle.zone_lookup.proofs.cut_flags.CutFlags.of.Goals as goal

pub of_sides-requires-clause-above : goal.of_sides-requires-clause-above
of_sides-requires-clause-above c =
    held_above c.args.hosts.now c.args.cut.server.now c.args.cut.zone.now c.args.cut.cut.now c.held_zone-above.result c.held_zone-above.ensures c.requires

pub of_sides-requires-clause-below : goal.of_sides-requires-clause-below
of_sides-requires-clause-below c = own_above c.in-Some.host.now c.args.cut.cut.now c.zone_with_origin-below.result c.zone_with_origin-below.ensures

pub returns-in-Some : goal.returns-in-Some
returns-in-Some c =
    IfOk-weaker c.of_sides.result _ _
    (λ flags is. is ∙ flags_told c.args.hosts.now c.args.sets.now (cut_of c.args.cut) c.in-Some.host.now _ _
    (sym c.in-Some.ensures) (sym c.held_zone-above.ensures) c.zone_with_origin-below.ensures)
    c.of_sides.ensures

pub returns-in-None : goal.returns-in-None
returns-in-None c =
    c.of_glue.ensures
    ∙ unhosted_flags c.args.hosts.now c.args.sets.now (cut_of c.args.cut) (sym c.in-None.ensures) c.wants_glue.result c.wants_glue.ensures
