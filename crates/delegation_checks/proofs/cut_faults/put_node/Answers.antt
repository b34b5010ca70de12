use Rattle.std.proofs.Common.{List, ◌++◌, sym, ap, ◌∙◌, subst}
use Rattle.std.specs.Prelude.{Contains}
use Rattle.std.specs.List.{flat_map}
use Rattle.std.proofs.lemmas.List.{append-nil, take_all}
use Rattle.std.proofs.lemmas.List.Elements.{Contains-get_or}
use Rattle.graph_form.specs.declared.node.Arm.{Arm}
use Rattle.graph_form.specs.declared.report.Seen.{Seen}
use Rattle.graph_form.proofs.Verdicts.{put_more, put_all}
use Rattle.delegation_checks.proofs.FlaggedBranches.{arm_seen, of_node}
use Rattle.delegation_checks.proofs.cut_faults.put_node.Goals as goal

pub loop-arm-init : goal.loop-arm-init
loop-arm-init c = λ deps table refers. sym (append-nil c.args.seen.now)

pub loop-arm-preserved : goal.loop-arm-preserved
loop-arm-preserved c = λ deps table refers.
    let arms = c.items-arm-items.result.now in
    let i = c.loop-arm.arm-index in
    let arm = c.arm-item.result in
    let has : Contains c.args.node.now.arms arm =
    subst (λ (all : List Arm). Contains all arm) c.items-arm-items.ensures
    (subst (Contains arms) (sym c.arm-item.is) (Contains-get_or arms i arm c.loop-arm-test.true)) in
    put_more (arm_seen c.args.hosts.now deps c.args.node.now.state) arms i c.args.seen.now c.loop-arm.seen (c.loop-arm.invariant deps table refers)
    arm c.put_arm.new.seen c.loop-arm-test.true c.arm-item.is (c.in_ok-put_arm.ensures deps c.args.node.now.state table (refers arm has))

pub returns : goal.returns
returns c = λ deps table refers.
    let arms = c.items-arm-items.result.now in
    let f = arm_seen c.args.hosts.now deps c.args.node.now.state in
    put_all f arms c.loop-arm.arm-index c.args.seen.now c.loop-arm.seen (c.loop-arm.invariant deps table refers)
    (take_all c.loop-arm.arm-index arms c.loop-arm-test.false)
    ∙ ap (λ (all : List Arm). c.args.seen.now ++ flat_map f all) c.items-arm-items.ensures
    ∙ ap (λ (all : List Seen). c.args.seen.now ++ all) (of_node c.args.hosts.now deps c.args.node.now)
