use Rattle.std.proofs.Common.{◌≡◌, List, Some, length, sym, ap, ◌∙◌, subst, refl}
use Rattle.std.specs.Prelude.{slice_get}
use Rattle.dns_data.specs.declared.rr_type.RrType.TheVariants as rr
use Rattle.graph_form.proofs.Places.{item_there}
use Rattle.interp_graph.specs.Listed.{but_cname}
use Rattle.interp_graph.specs.declared.step.Early.{Early}
use Rattle.interp_graph.proofs.Listing.{passes_later}
use Rattle.interp_graph.proofs.Located.{all_located}
use Rattle.interp_graph.proofs.Passing.{passed_on}
use Rattle.interp_graph.proofs.TwoTurns.{RestSoFar, others_than, rest_begun, rest_comes, rest_more}
use Rattle.interp_graph.proofs.turns.follow_rest.Goals as goal

pub loop-alloc-init : goal.loop-alloc-init
loop-alloc-init c =
    subst (λ (left : List Early). RestSoFar c.args.walker.now c.args.most c.args.states.now c.args.states.now left c.new-nodes.result) (sym c.into_iter-left.ensures.into_iter_gives.0)
    (subst (RestSoFar c.args.walker.now c.args.most c.args.states.now c.args.states.now c.args.early) (sym c.new-nodes.ensures)
    (rest_begun c.args.walker.now c.args.most c.args.states.now c.args.early c.requires.few c.requires.early))

pub draft_or_forks-requires : goal.draft_or_forks-requires
draft_or_forks-requires c =
    let now = c.loop-alloc.states in
    let next : slice_get now (length c.loop-alloc.nodes) ≡ Some c.state-state.result.now =
    ap (slice_get now) (sym c.len-in-loop-alloc-2.ensures) ∙ (c.key.ensures ∙ ap Some (sym c.state-state.ensures)) in
    all_located c.args.walker.now but_cname rr.A refl c.args.states.now now c.requires.located c.loop-alloc.invariant.lists.adds c.state-state.result.now
    (item_there now (length c.loop-alloc.nodes) c.state-state.result.now next)

pub returns-in_err-finished-clause-passed : goal.returns-in_err-finished-clause-passed
returns-in_err-finished-clause-passed c =
    let state = c.state-state.result.now in
    let now = c.loop-alloc.states in
    let next : slice_get now (length c.loop-alloc.nodes) ≡ Some state =
    ap (slice_get now) (sym c.len-in-loop-alloc-2.ensures) ∙ (c.key.ensures ∙ ap Some (sym c.state-state.ensures)) in
    λ is. passes_later (λ s comes. comes)
    (rest_comes c.args.walker.now c.args.most c.args.states.now now c.loop-alloc.nodes state next c.loop-alloc.left c.next.new.self c.next.result c.next.ensures.steps c.loop-alloc.invariant
    c.minus-types.result (others_than c.all.result c.one.result c.minus-types.result c.all.ensures c.one.ensures c.minus-types.ensures) c.in_ok-draft.draft c.in_ok-draft.ensures)
    c.args.states.now now c.loop-alloc.invariant.lists.adds c.args.most
    (c.in_err-finished.ensures.passed (passed_on c.from_residual-in_err-finished.result c.in_err-finished.field-0.0 _ c.from_residual-in_err-finished.ensures.1 is _ refl))

pub loop-alloc-preserved : goal.loop-alloc-preserved
loop-alloc-preserved c =
    let state = c.state-state.result.now in
    let now = c.loop-alloc.states in
    let next : slice_get now (length c.loop-alloc.nodes) ≡ Some state =
    ap (slice_get now) (sym c.len-in-loop-alloc-2.ensures) ∙ (c.key.ensures ∙ ap Some (sym c.state-state.ensures)) in
    subst (RestSoFar c.args.walker.now c.args.most c.args.states.now c.finished.new.states c.next.new.self) (sym c.in_ok-push.ensures.ok)
    (rest_more c.args.walker.now c.args.most c.args.states.now now c.loop-alloc.nodes state next c.loop-alloc.left c.next.new.self c.next.result c.next.ensures.steps c.loop-alloc.invariant
    c.minus-types.result (others_than c.all.result c.one.result c.minus-types.result c.all.ensures c.one.ensures c.minus-types.ensures) c.in_ok-draft.draft c.in_ok-draft.ensures
    c.finished.new.states c.in_ok-finished.field-0 c.in_ok-finished.ensures.lists c.in_ok-finished.ensures.arms)
