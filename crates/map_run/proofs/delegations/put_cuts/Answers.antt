use Rattle.std.proofs.Common.{◌≡◌, ◌++◌, List, filter, subst, ap, ◌∙◌}
use Rattle.std.proofs.lemmas.List.{take_all}
use Rattle.std.specs.List.{flat_map}
use Rattle.dns_data.specs.Name.{Labels}
use Rattle.net_model.specs.declared.config.Zone.{Zone}
use Rattle.name_ends.specs.Asked.{ends_in}
use Rattle.zone_cuts.specs.Cuts.{cuts, is_cut}
use Rattle.zone_cuts.proofs.OrderedCuts.{cuts_among}
use Rattle.map_run.specs.Delegations.{cut_lines}
use Rattle.map_run.proofs.delegations.put_cuts.Goals as goal

pub returns-clause-lines : goal.returns-clause-lines
returns-clause-lines c =
    let asker = c.args.asker.now in
    let at = c.args.at.now in
    let tree = c.tree-tree.result.now in
    let all : filter (is_cut at.zone) tree.names ≡ cuts at.zone =
    subst (λ (zone : Zone). filter (is_cut zone) tree.names ≡ cuts zone) c.tree-tree.ensures (cuts_among tree.zone tree.names c.zone.ensures.names c.zone.ensures.once) in
    c.loop-name.invariant.lines
    ∙ ap (λ (names : List Labels). c.args.lines.now ++ flat_map (cut_lines (ends_in asker) asker.config at.row at.zone) names)
    (ap (filter (is_cut at.zone)) (take_all c.loop-name.name-index c.names-name-items.result.now c.loop-name-test.false ∙ c.names-name-items.ensures) ∙ all)
