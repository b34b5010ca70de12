use Rattle.std.proofs.Common.{◌≡◌, ◌∙◌, ap, sym, arith, true, ◌&&◌}
use Rattle.std.specs.Ordering.{is_eq}
use Rattle.std.proofs.lemmas.Option.{slice_get_within, get_or_from_slice_get}
use Rattle.verdict_book.specs.Books.{Pages, kept_in}
use Rattle.verdict_book.specs.Items.{items_of, item_of}
use Rattle.verdict_book.specs.Refusals.{is_claimed}
use Rattle.verdict_book.specs.declared.claim.Kept.TheVariants.{Claimed}
use Rattle.verdict_book.specs.declared.row.Row.{Row}
use Rattle.verdict_book.proofs.Keeping.{row_there, item_at, claimed_means}
use Rattle.verdict_book.proofs.book.Book.keeps_claim.Goals as goal

pub index-requires : goal.index-requires
index-requires g c =
    let rows = c.self.inside.rows.items in
    let t = c.args.claim.now.ticket in
    let claimed : is_claimed (kept_in c.args.self.now.history t) ≡ true = ap is_claimed (sym c.kept.ensures) ∙ sym c.is_claimed.ensures ∙ c.if-is_claimed.true in
    let kept = claimed_means _ (ap (λ (p : Pages). is_claimed (kept_in p.history t)) c.self.view_is ∙ claimed) in
    let there = row_there g.W.Work.first_item g.W.Work.children_of g.W.Work.verdict_of g.met.W.Work.parents_apart _ _ rows _ _ _ c.self.invariant t Claimed kept (λ e. cc) in
    omega (arith, slice_get_within rows t there.0 there.1, c.self.inside.rows.ok.0)

pub returns-then-is_claimed : goal.returns-then-is_claimed
returns-then-is_claimed g c =
    let rows = c.self.inside.rows.items in
    let t = c.args.claim.now.ticket in
    let claimed : is_claimed (kept_in c.args.self.now.history t) ≡ true = ap is_claimed (sym c.kept.ensures) ∙ sym c.is_claimed.ensures ∙ c.if-is_claimed.true in
    let kept = claimed_means _ (ap (λ (p : Pages). is_claimed (kept_in p.history t)) c.self.view_is ∙ claimed) in
    let there = row_there g.W.Work.first_item g.W.Work.children_of g.W.Work.verdict_of g.met.W.Work.parents_apart _ _ rows _ _ _ c.self.invariant t Claimed kept (λ e. cc) in
    let first = g.W.Work.first_item in
    let cmp = g.W.Item.Ord.cmp in
    let other = c.args.claim.now.item in
    let at = item_at g.W.Work.first_item g.W.Work.children_of g.W.Work.verdict_of g.met.W.Work.parents_apart _ _ rows _ _ _ c.self.invariant t there.0 there.1 in
    let row_is = ap (λ (r : Row g.row.W-Item.Denot g.row.W-Verdict.Denot). r.item) (c.index.ensures ∙ get_or_from_slice_get rows t there.0 _ there.1) in
    let item = row_is ∙ sym (get_or_from_slice_get (items_of first g.W.Work.children_of c.self.inside.history.items) t there.0.item first at) ∙ ap (λ (p : Pages). item_of first g.W.Work.children_of p.history t) c.self.view_is in
    c.are_same.ensures
    ∙ ap (λ i. is_eq (cmp i other)) item
    ∙ ap (λ b. b && is_eq (cmp (item_of first g.W.Work.children_of c.args.self.now.history t) other)) (sym claimed)
