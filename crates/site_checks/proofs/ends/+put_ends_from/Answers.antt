use Rattle.std.proofs.Common.{Bool, List, length, refl, sym, ap, ◌∙◌, subst, arith, rules, [], ◌∷◌}
use Rattle.graph_form.specs.declared.node.Branch.{Branch}
use Rattle.site_checks.specs.Ends.{typed_end}
use Rattle.site_checks.specs.PathEnds.{AreDone, ends_by, ends_from}
use Rattle.site_checks.proofs.GoingOn.{on_from, whole_node}
use Rattle.site_checks.proofs.SearchSteps.{put, one_more, all_given, still_done, done_leads, done_more}
use Rattle.site_checks.proofs.ends.+put_ends_from.Goals as goal
use Rattle.site_checks.proofs.ends.+put_ends_from.Goals.{in-Go+in_ok-put_ends_from-in-Go, in-End+in_ok-put_end-in-End}

pub returns-then-done-at-clause-ends : goal.returns-then-done-at-clause-ends
returns-then-done-at-clause-ends t c =
    done_leads c.args.graph.now c.args.rtype c.args.done.now c.args.ends.now c.args.at (search rules) c.if-done-at.true c.requires.done

pub loop-branch-init : goal.loop-branch-init
loop-branch-init t c = record { room = c.requires.room; ends = refl; done = c.requires.done }

pub put_ends_from-requires : goal.put_ends_from-requires
put_ends_from-requires t c =
    let kept = c.loop-branch.invariant in
    let on =
    on_from c.args.graph.now c.args.rtype c.args.at c.requires.met c.node-node.result.now c.branches-branch-items.result.now c.node-node.ensures c.branches-branch-items.ensures
    c.loop-branch.branch-index c.in-Go.to c.in-Go.hop c.branch-item.result c.loop-branch-test.true c.branch-item.is c.in-Go.is in
    (omega (arith, on.fewer, c.decreases), (on.met, (on.within, (kept.room, kept.done))))

pub loop-branch-preserved : goal.loop-branch-preserved
loop-branch-preserved t c =
    let graph = c.args.graph.now in
    let rtype = c.args.rtype in
    let give = ends_by (ends_from graph rtype) rtype c.node-node.result.now.state in
    let branches = c.branches-branch-items.result.now in
    let i = c.loop-branch.branch-index in
    let ends = c.loop-branch.ends in
    let kept = c.loop-branch.invariant in
    elim c.match-branch.branch [
      | in-Go+in_ok-put_ends_from-in-Go w ↦
          let told = w.in_ok-put_ends_from-in-Go.ensures in
          record {
            room = ap length w.done-is ∙ told.room;
            ends =
                w.ends-is
                ∙ one_more give branches i c.args.ends.now ends kept.ends w.put_ends_from.new.ends c.branch-item.result _ c.loop-branch-test.true c.branch-item.is
                (told.ends ∙ ap (λ (b : Branch). put ends (give b)) (sym w.in-Go.is));
            done =
                subst (λ (l : List Bool). AreDone graph rtype l c.match-branch.ends) (sym w.done-is)
                (subst (AreDone graph rtype w.put_ends_from.new.done) (sym w.ends-is) told.done);
          }
      | in-End+in_ok-put_end-in-End w ↦
          let told = w.in_ok-put_end-in-End.ensures in
          record {
            room = ap length w.done-is ∙ kept.room;
            ends =
                w.ends-is
                ∙ one_more give branches i c.args.ends.now ends kept.ends w.put_end.new.ends c.branch-item.result _ c.loop-branch-test.true c.branch-item.is
                (told ∙ ap (λ (b : Branch). put ends (give b)) (sym w.in-End.is));
            done =
                subst (λ (l : List Bool). AreDone graph rtype l c.match-branch.ends) (sym w.done-is)
                (subst (AreDone graph rtype c.loop-branch.done) (sym (w.ends-is ∙ told))
                (still_done graph rtype c.loop-branch.done ends (typed_end rtype c.node-node.result.now.state.server w.in-End.leaf ∷ []) kept.done));
          }
    ]

pub returns-clause-ends : goal.returns-clause-ends
returns-clause-ends t c =
    let graph = c.args.graph.now in
    let rtype = c.args.rtype in
    all_given (ends_by (ends_from graph rtype) rtype c.node-node.result.now.state) c.branches-branch-items.result.now c.loop-branch.branch-index c.args.ends.now c.loop-branch.ends
    c.loop-branch.invariant.ends c.loop-branch-test.false
    ∙ ap (put c.args.ends.now) (whole_node graph rtype c.args.at c.requires.met c.node-node.result.now c.branches-branch-items.result.now c.node-node.ensures c.branches-branch-items.ensures)

pub returns-clause-done : goal.returns-clause-done
returns-clause-done t c =
    let graph = c.args.graph.now in
    let rtype = c.args.rtype in
    done_more graph rtype c.loop-branch.done c.loop-branch.ends c.args.ends.now c.args.at c.loop-branch.invariant.done
    (all_given (ends_by (ends_from graph rtype) rtype c.node-node.result.now.state) c.branches-branch-items.result.now c.loop-branch.branch-index c.args.ends.now c.loop-branch.ends
    c.loop-branch.invariant.ends c.loop-branch-test.false
    ∙ ap (put c.args.ends.now) (whole_node graph rtype c.args.at c.requires.met c.node-node.result.now c.branches-branch-items.result.now c.node-node.ensures c.branches-branch-items.ensures))
