use Rattle.std.proofs.Common.{◌≡◌, Some, length, refl, sym, ap, ◌∙◌, subst}
use Rattle.std.specs.Prelude.{slice_get}
use Rattle.dns_data.specs.declared.rr_type.RrType.TheVariants as rr
use Rattle.graph_form.proofs.Places.{item_there}
use Rattle.interp_graph.specs.Listed.{every}
use Rattle.interp_graph.proofs.Listing.{passes_later}
use Rattle.interp_graph.proofs.Located.{all_located}
use Rattle.interp_graph.proofs.Passing.{passed_on}
use Rattle.interp_graph.proofs.TwoTurns.{FirstSoFar, early_comes, first_more}
use Rattle.interp_graph.proofs.turns.follow_all.Goals as goal

pub early_forks-requires : goal.early_forks-requires
early_forks-requires c =
    let now = c.loop-alloc.states in
    let next : slice_get now (length c.loop-alloc.all) ≡ Some c.state-state.result.now =
    ap (slice_get now) (sym c.len-in-loop-alloc-2.ensures) ∙ (c.key.ensures ∙ ap Some (sym c.state-state.ensures)) in
    all_located c.args.walker.now every rr.A refl c.args.states.now now c.requires.located c.loop-alloc.invariant.lists.adds c.state-state.result.now
    (item_there now (length c.loop-alloc.all) c.state-state.result.now next)

pub returns-in_err-early_arms-clause-passed : goal.returns-in_err-early_arms-clause-passed
returns-in_err-early_arms-clause-passed c =
    let state = c.state-state.result.now in
    let now = c.loop-alloc.states in
    let next : slice_get now (length c.loop-alloc.all) ≡ Some state =
    ap (slice_get now) (sym c.len-in-loop-alloc-2.ensures) ∙ (c.key.ensures ∙ ap Some (sym c.state-state.ensures)) in
    λ is. passes_later (λ s comes. comes)
    (early_comes c.args.walker.now c.args.most c.args.states.now now c.loop-alloc.all c.loop-alloc.invariant state next c.in_ok-forks.forks c.in_ok-forks.ensures)
    c.args.states.now now c.loop-alloc.invariant.lists.adds c.args.most
    (c.in_err-early_arms.ensures.passed (passed_on c.from_residual-in_err-early_arms.result c.in_err-early_arms.field-0.0 _ c.from_residual-in_err-early_arms.ensures.1 is _ refl))

pub loop-alloc-preserved : goal.loop-alloc-preserved
loop-alloc-preserved c =
    let state = c.state-state.result.now in
    let now = c.loop-alloc.states in
    let next : slice_get now (length c.loop-alloc.all) ≡ Some state =
    ap (slice_get now) (sym c.len-in-loop-alloc-2.ensures) ∙ (c.key.ensures ∙ ap Some (sym c.state-state.ensures)) in
    subst (FirstSoFar c.args.walker.now c.args.most c.args.states.now c.early_arms.new.states) (sym c.in_ok-push.ensures.ok)
    (first_more c.args.walker.now c.args.most c.args.states.now now c.loop-alloc.all c.loop-alloc.invariant state next c.in_ok-forks.forks c.in_ok-forks.ensures
    c.early_arms.new.states c.in_ok-early_arms.field-0 c.in_ok-early_arms.ensures.lists c.in_ok-early_arms.ensures.early)
