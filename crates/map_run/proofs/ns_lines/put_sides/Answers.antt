use Rattle.std.proofs.Common.{◌++◌, append_assoc, ◌∙◌}
use Rattle.std.proofs.lemmas.Result.{on_ok_weaker}
use Rattle.net_model.specs.declared.place.Cut.{Cut}
use Rattle.zone_lookup.specs.Sides.{addresses_differ, zones_differ}
use Rattle.zone_lookup.specs.Sound.{wants_glue}
use Rattle.map_run.specs.Delegations.{ns_line, place_at, side_lines}
use Rattle.map_run.specs.declared.ns_lines.NsWord.TheVariants.{Lame, Differs, NoGlue, GlueDiffers}
use Rattle.map_run.proofs.ns_lines.put_sides.Goals as goal

pub returns : goal.returns
unfolding side_lines
returns c =
    let old = c.args.lines.now in
    let row = c.args.at.now.row in
    let zone = c.args.at.now.zone in
    let cut = c.args.cut.now in
    let ns = c.args.ns.now in
    let config = c.args.hosts.now in
    let place : Cut = place_at row zone cut ns in
    let flags = c.in_ok-flags.ensures in
    on_ok_weaker c.put_if-4.result
    (λ is.
    is
    ∙ (λ i. c.in_ok-put_if-3.ensures i ++ ns_line row zone cut ns (flags i).glue_differs GlueDiffers)
    ∙ (λ i. (c.in_ok-put_if-2.ensures i ++ ns_line row zone cut ns (flags i).no_glue NoGlue) ++ ns_line row zone cut ns (addresses_differ config place) GlueDiffers)
    ∙ (λ i. ((c.in_ok-put_if.ensures i ++ ns_line row zone cut ns (flags i).differs Differs) ++ ns_line row zone cut ns (wants_glue config place) NoGlue)
    ++ ns_line row zone cut ns (addresses_differ config place) GlueDiffers)
    ∙ (λ i. (((old ++ ns_line row zone cut ns (c.is_lame-lame.ensures i) Lame) ++ ns_line row zone cut ns (zones_differ config place) Differs)
    ++ ns_line row zone cut ns (wants_glue config place) NoGlue) ++ ns_line row zone cut ns (addresses_differ config place) GlueDiffers)
    ∙ append_assoc _ (ns_line row zone cut ns (wants_glue config place) NoGlue) (ns_line row zone cut ns (addresses_differ config place) GlueDiffers)
    ∙ append_assoc _ (ns_line row zone cut ns (zones_differ config place) Differs) _
    ∙ append_assoc old _ _)
    c.put_if-4.ensures
