use Rattle.std.proofs.Common.{List, sym, ap, ◌∙◌, ◌++◌}
use Rattle.std.proofs.lemmas.List.{take_all}
use Rattle.std.proofs.lemmas.List.Folds.{flat_map-map}
use Rattle.graph_form.specs.Branches.{branch_seen, plain_branch}
use Rattle.graph_form.specs.EndFaults.{picked_fault}
use Rattle.graph_form.specs.declared.branches.TypedBranch.{TypedBranch}
use Rattle.graph_form.specs.declared.report.Seen.{Seen}
use Rattle.graph_form.proofs.Verdicts.{put_more, put_all}
use Rattle.graph_form.proofs.picked_faults.put_end_faults.Goals as goal

pub loop-one-preserved : goal.loop-one-preserved
loop-one-preserved g c =
    put_more (λ (one : TypedBranch). branch_seen (picked_fault (g.P.PicksFaults.picked c.args.picker.now)) (plain_branch one)) c.args.branches.now c.loop-one.one-index
    c.args.seen.now c.loop-one.seen c.loop-one.invariant c.one-item.result c.put_end_fault.new.seen c.loop-one-test.true c.one-item.is c.in_ok-put_end_fault.ensures

pub returns : goal.returns
returns g c =
    let faults = branch_seen (picked_fault (g.P.PicksFaults.picked c.args.picker.now)) in
    let items = c.args.branches.now in
    put_all (λ (one : TypedBranch). faults (plain_branch one)) items c.loop-one.one-index c.args.seen.now c.loop-one.seen
    c.loop-one.invariant (take_all c.loop-one.one-index items c.loop-one-test.false)
    ∙ ap (λ (more : List Seen). c.args.seen.now ++ more) (sym (flat_map-map faults plain_branch items))
