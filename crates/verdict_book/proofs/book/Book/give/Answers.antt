use Rattle.std.proofs.Common.{◌∷◌, [], ◌++◌, ◌+◌, ◌≤◌, length, set, sym, refl, ◌∙◌, ap, subst, arith}
use Rattle.std.specs.Vec.{vec_capacity}
use Rattle.std.proofs.lemmas.Option.{slice_get_within, get_or_from_slice_get}
use Rattle.pool_core.specs.declared.history.HistoryEntry.TheVariants.{Claim as ClaimOf}
use Rattle.verdict_book.specs.Books.{Pages, claims_in}
use Rattle.verdict_book.specs.Refusals.{claim_refusal}
use Rattle.verdict_book.specs.Items.{Reached, items_of, item_of}
use Rattle.verdict_book.specs.Keeping.{IsBookAfter}
use Rattle.verdict_book.specs.declared.row.Row.{Row}
use Rattle.verdict_book.specs.declared.row.TicketState.TheVariants.{Claimed}
use Rattle.verdict_book.proofs.Keeping.{open_there, claim_keeps, room_keeps, claims_few, reached_at, item_at, pages_of, row_in}
use Rattle.verdict_book.proofs.book.Book.give.Goals as goal

pub index-requires : goal.index-requires
index-requires g c =
    let first = g.W.Work.first_item in
    let children = g.W.Work.children_of in
    let verdicts = g.W.Work.verdict_of in
    let apart = g.met.W.Work.parents_apart in
    let rows = c.self.inside.rows.items in
    let t = c.args.ticket in
    let said = ap (λ (p : Pages). claim_refusal p.history t) c.self.view_is ∙ c.requires in
    let there = open_there first children verdicts apart _ _ rows _ _ _ c.self.invariant t said in
    let low = slice_get_within rows t there.0 there.1 in
    let len = c.self.inside.rows.ok.0 in
    omega (arith, low, len)

pub index_mut-requires : goal.index_mut-requires
index_mut-requires g c =
    let first = g.W.Work.first_item in
    let children = g.W.Work.children_of in
    let verdicts = g.W.Work.verdict_of in
    let apart = g.met.W.Work.parents_apart in
    let rows = c.self.inside.rows.items in
    let t = c.args.ticket in
    let said = ap (λ (p : Pages). claim_refusal p.history t) c.self.view_is ∙ c.requires in
    let there = open_there first children verdicts apart _ _ rows _ _ _ c.self.invariant t said in
    let low = slice_get_within rows t there.0 there.1 in
    let len = c.self.inside.rows.ok.0 in
    omega (arith, low, len)

pub invariant_of-self : goal.invariant_of-self
invariant_of-self g c =
    room_keeps g.W.Work.first_item g.W.Work.children_of g.W.Work.verdict_of g.met.W.Work.parents_apart _ _ _ _ _ _ c.self.invariant _ _ c.reserve.ensures.items c.reserve.ensures.capacity

pub invariant_of-self-2 : goal.invariant_of-self-2
invariant_of-self-2 g c =
    let first = g.W.Work.first_item in
    let children = g.W.Work.children_of in
    let verdicts = g.W.Work.verdict_of in
    let apart = g.met.W.Work.parents_apart in
    let rows = c.self.inside.rows.items in
    let t = c.args.ticket in
    let said = ap (λ (p : Pages). claim_refusal p.history t) c.self.view_is ∙ c.requires in
    let there = open_there first children verdicts apart _ _ rows _ _ _ c.self.invariant t said in
    let h = c.self.inside.history.items in
    let row_is = c.index_mut.ensures.value ∙ get_or_from_slice_get rows t there.0 _ there.1 in
    let now = c.push_reserved.ensures.items ∙ ap (λ l. l ++ ClaimOf t ∷ []) c.reserve.ensures.items in
    let len = c.self.inside.history.ok.0 in
    let more = c.in_ok-reserve.ensures.ok in
    let len' = c.reserve.ensures.len in
    let cap' = c.push_reserved.ensures.capacity in
    let room : length h + 2 ≤ vec_capacity c.push_reserved.new.self = omega (arith, len, more, len', cap') in
    let kept = claim_keeps first children verdicts apart _ h rows _ _ _ c.self.invariant t there.0 (vec_capacity c.push_reserved.new.self) there.3 there.1 there.2 room in
    let K = IsBookAfter first children verdicts in
    subst (λ l. K (pages_of c.self.inside.limit l) (set rows t (row_in c.index_mut.result.now.item Claimed)) c.self.inside.stopped c.self.inside.filed (vec_capacity c.push_reserved.new.self)) (sym now)
    (subst (λ (r : Row g.row.W-Item.Denot g.row.W-Verdict.Denot). K (pages_of c.self.inside.limit (h ++ ClaimOf t ∷ [])) (set rows t (row_in r.item Claimed)) c.self.inside.stopped c.self.inside.filed (vec_capacity c.push_reserved.new.self)) (sym row_is) kept)

pub returns-clause-claim : goal.returns-clause-claim
returns-clause-claim g c =
    let first = g.W.Work.first_item in
    let children = g.W.Work.children_of in
    let verdicts = g.W.Work.verdict_of in
    let apart = g.met.W.Work.parents_apart in
    let rows = c.self.inside.rows.items in
    let t = c.args.ticket in
    let said = ap (λ (p : Pages). claim_refusal p.history t) c.self.view_is ∙ c.requires in
    let there = open_there first children verdicts apart _ _ rows _ _ _ c.self.invariant t said in
    let at = item_at first children verdicts apart _ _ rows _ _ _ c.self.invariant t there.0 there.1 in
    let item = c.in_ok-item.ensures ∙ ap (λ (r : Row g.row.W-Item.Denot g.row.W-Verdict.Denot). r.item) (c.index.ensures ∙ get_or_from_slice_get rows t there.0 _ there.1) in (
      refl,
      item ∙ sym (get_or_from_slice_get (items_of first children c.self.inside.history.items) t there.0.item first at) ∙ ap (λ (p : Pages). item_of first children p.history t) c.self.view_is,
    )

pub returns-clause-reached : goal.returns-clause-reached
returns-clause-reached g c =
    let first = g.W.Work.first_item in
    let children = g.W.Work.children_of in
    let verdicts = g.W.Work.verdict_of in
    let apart = g.met.W.Work.parents_apart in
    let rows = c.self.inside.rows.items in
    let t = c.args.ticket in
    let said = ap (λ (p : Pages). claim_refusal p.history t) c.self.view_is ∙ c.requires in
    let there = open_there first children verdicts apart _ _ rows _ _ _ c.self.invariant t said in
    let item = c.in_ok-item.ensures ∙ ap (λ (r : Row g.row.W-Item.Denot g.row.W-Verdict.Denot). r.item) (c.index.ensures ∙ get_or_from_slice_get rows t there.0 _ there.1) in
    subst (Reached first children) (sym item) (reached_at first children verdicts apart _ _ rows _ _ _ c.self.invariant t there.0 there.1)

pub returns-clause-few : goal.returns-clause-few
returns-clause-few g c =
    let first = g.W.Work.first_item in
    let children = g.W.Work.children_of in
    let verdicts = g.W.Work.verdict_of in
    let apart = g.met.W.Work.parents_apart in
    let rows = c.self.inside.rows.items in
    let t = c.args.ticket in
    let said = ap (λ (p : Pages). claim_refusal p.history t) c.self.view_is ∙ c.requires in
    let there = open_there first children verdicts apart _ _ rows _ _ _ c.self.invariant t said in
    let h = c.self.inside.history.items in
    let row_is = c.index_mut.ensures.value ∙ get_or_from_slice_get rows t there.0 _ there.1 in
    let now = c.push_reserved.ensures.items ∙ ap (λ l. l ++ ClaimOf t ∷ []) c.reserve.ensures.items in
    let len = c.self.inside.history.ok.0 in
    let more = c.in_ok-reserve.ensures.ok in
    let len' = c.reserve.ensures.len in
    let cap' = c.push_reserved.ensures.capacity in
    let room : length h + 2 ≤ vec_capacity c.push_reserved.new.self = omega (arith, len, more, len', cap') in
    let kept = claim_keeps first children verdicts apart _ h rows _ _ _ c.self.invariant t there.0 (vec_capacity c.push_reserved.new.self) there.3 there.1 there.2 room in
    subst (λ l. claims_in l ≤ c.self.inside.limit) (sym now) (claims_few first children verdicts apart _ _ _ _ _ _ kept)
