use Rattle.std.proofs.Common.{◌∙◌, ℕ, List, [], ◌∷◌, ◌++◌, true≢false, take, get_or, nat_eq, sym, ap, subst}
use Rattle.std.specs.List.{list_any}
use Rattle.std.proofs.lemmas.List.{take_all, take_more}
use Rattle.label_graph.specs.Rows.{AreAdded}
use Rattle.label_graph.proofs.PutPlaces.{added_none, added_known, added_new, row_decides}
use Rattle.label_graph.proofs.rows.put_missing.Goals as goal
use Rattle.label_graph.proofs.rows.put_missing.Goals.{then-not-contains+in_ok-push, else-not-contains}

pub loop-place-init : goal.loop-place-init
loop-place-init c = added_none c.args.list.now

pub returns : goal.returns
returns c =
    subst (λ (more : List ℕ). AreAdded c.args.list.now more c.loop-place.list c.loop-place.any)
    (take_all c.loop-place.place-index c.args.more.now c.loop-place-test.false) c.loop-place.invariant

pub loop-place-preserved : goal.loop-place-preserved
loop-place-preserved c =
    let more = c.args.more.now in
    let index = c.loop-place.place-index in
    let place = get_or more index 0 in
    let row = row_decides c.loop-place.list place c.contains.result (c.contains.ensures.value ∙ ap (λ (l : List ℕ). list_any (λ y. nat_eq y place) l) c.items.ensures) in
    let before = c.args.list.now in
    let list = c.loop-place.list in
    let passed = take index more in
    subst (λ (l : List ℕ). AreAdded before l c.if-not-contains.list c.if-not-contains.any) (sym (take_more more index 0 c.loop-place-test.true))
    (elim c.if-not-contains.branch [
      | then-not-contains+in_ok-push w ↦
          subst (λ (l : List ℕ). AreAdded before (passed ++ place ∷ []) l c.if-not-contains.any) (sym (w.list-is ∙ w.in_ok-push.ensures.ok))
          (subst (AreAdded before (passed ++ place ∷ []) (list ++ place ∷ [])) (sym w.any-is)
          (added_new before passed list c.loop-place.any place c.loop-place.invariant (λ has. true≢false (sym (row.1 has) ∙ w.if-not-contains.true))))
      | else-not-contains w ↦
          subst (λ (l : List ℕ). AreAdded before (passed ++ place ∷ []) l c.if-not-contains.any) (sym w.list-is)
          (subst (AreAdded before (passed ++ place ∷ []) list) (sym w.any-is)
          (added_known before passed list c.loop-place.any place c.loop-place.invariant (row.0 w.if-not-contains.false)))
    ])
