use Rattle.std.proofs.Common.{◌≡◌, ◌++◌, List, filter, subst, ap, ◌∙◌}
use Rattle.std.proofs.lemmas.List.{take_all}
use Rattle.std.specs.List.{flat_map}
use Rattle.dns_data.specs.Name.{Labels}
use Rattle.net_model.specs.declared.config.Zone.{Zone}
use Rattle.zone_cuts.specs.Cuts.{cuts, is_cut}
use Rattle.zone_cuts.proofs.OrderedCuts.{cuts_among}
use Rattle.map_run.specs.Chain.{cut_lines}
use Rattle.map_run.specs.Lines.{if_so}
use Rattle.map_run.specs.declared.lines.Line.{Line}
use Rattle.map_run.proofs.RowsBefore.{flat_more, flat_where}
use Rattle.map_run.proofs.chain.put_cuts.Goals as goal

pub loop-name-preserved : goal.loop-name-preserved
loop-name-preserved c =
    let at = c.args.at.now in
    flat_more (λ (name : Labels). if_so (is_cut at.zone name) (cut_lines c.args.all.now at.row at.zone name)) c.args.lines.now c.names-name-items.result.now
    c.loop-name.name-index c.name-item.result c.loop-name.lines c.put_if_cut.new.lines c.loop-name-test.true c.name-item.is c.loop-name.invariant c.in_ok-put_if_cut.ensures

pub returns : goal.returns
returns c =
    let at = c.args.at.now in
    let tree = c.tree-tree.result.now in
    let tell = cut_lines c.args.all.now at.row at.zone in
    let names = c.names-name-items.result.now in
    let all : filter (is_cut at.zone) tree.names ≡ cuts at.zone =
    subst (λ (zone : Zone). filter (is_cut zone) tree.names ≡ cuts zone) c.tree-tree.ensures (cuts_among tree.zone tree.names c.zone.ensures.names c.zone.ensures.once) in
    c.loop-name.invariant
    ∙ ap (λ (items : List Labels). c.args.lines.now ++ flat_map (λ (name : Labels). if_so (is_cut at.zone name) (tell name)) items)
    (take_all c.loop-name.name-index names c.loop-name-test.false)
    ∙ ap (λ (lines : List Line). c.args.lines.now ++ lines) (flat_where (is_cut at.zone) tell names)
    ∙ ap (λ (items : List Labels). c.args.lines.now ++ flat_map tell items) (ap (filter (is_cut at.zone)) c.names-name-items.ensures ∙ all)
