use Rattle.std.proofs.Common.{◌≡◌, ◌*◌, ℕ, false, Bool, List, length, get_or, replicate, sym, ap, ◌∙◌, subst, Some, arith}
use Rattle.std.specs.Prelude.{slice_get}
use Rattle.std.proofs.lemmas.List.{length-replicate}
use Rattle.graph_form.specs.FirstPath.{IsFirstAlong, branch_shows, met_mark}
use Rattle.graph_form.proofs.FirstPaths.{barren_start_more, first_along, none_along}
use Rattle.graph_form.proofs.SearchStates.{none_met, item_at}
use Rattle.graph_form.proofs.first_path.first_path.Goals as goal

pub loop-number-init : goal.loop-number-init
loop-number-init c =
    let size = 2 * c.nodes.result in
    let items : c.as_mut_slice-met.result.now ≡ replicate size false =
    c.as_mut_slice-met.ensures.value ∙ c.in_ok-marks.ensures.items_if_clones_equal (λ y is. is) in
    record {
      room = ap (λ (xs : List Bool). length xs) items ∙ (length-replicate size false ∙ ap (λ n. 2 * n) c.nodes.ensures);
      barren = λ at taken e. absurd (none_met size (met_mark at taken) (ap (λ (xs : List Bool). slice_get xs (met_mark at taken)) (sym items) ∙ e));
      starts = λ k at less is. absurd (omega arith);
    }

pub returns-in-Some-clause-found : goal.returns-in-Some-clause-found
returns-in-Some-clause-found c =
    let shows = branch_shows c.args.fault.now c.args.walks.now in
    let graph = c.args.graph.now in
    let number = c.loop-number.number in
    let at = get_or c.starts-at-items.result.now number 0 in
    let is : slice_get graph.starts number ≡ Some at =
    ap (λ (xs : List ℕ). slice_get xs number) (sym c.starts-at-items.ensures) ∙ item_at c.starts-at-items.result.now number c.loop-number-test.true in
    subst (IsFirstAlong shows graph c.args.rtype) (sym c.in_ok-insert.ensures.items)
    (first_along shows graph c.args.rtype number at c.in-Some.path.items is c.loop-number.invariant.starts
    (rw c.in-Some.is at c.in_ok-found.ensures.found))

pub loop-number-preserved : goal.loop-number-preserved
loop-number-preserved c =
    let shows = branch_shows c.args.fault.now c.args.walks.now in
    let graph = c.args.graph.now in
    let number = c.loop-number.number in
    let at = get_or c.starts-at-items.result.now number 0 in
    let is : slice_get graph.starts number ≡ Some at =
    ap (λ (xs : List ℕ). slice_get xs number) (sym c.starts-at-items.ensures) ∙ item_at c.starts-at-items.result.now number c.loop-number-test.true in
    record {
      room = c.first_rest.auto.met ∙ c.loop-number.invariant.room;
      barren = rw c.in_default.is at c.in_ok-found.ensures.barren;
      starts = barren_start_more shows graph c.args.rtype number at is (rw c.in_default.is at c.in_ok-found.ensures.none) c.loop-number.invariant.starts;
    }

pub returns-clause-none : goal.returns-clause-none
returns-clause-none c =
    none_along (branch_shows c.args.fault.now c.args.walks.now) c.args.graph.now c.args.rtype
    (λ k at less is. c.loop-number.invariant.starts k at (omega (arith, ap (λ (xs : List ℕ). length xs) c.starts-at-items.ensures)) is)
