use Rattle.std.proofs.Common.{slice_get, ◌∙◌, ap}
use Rattle.verdict_book.specs.Books.{Pages, kept_in}
use Rattle.verdict_book.specs.Keeping.{kept_row}
use Rattle.verdict_book.proofs.Keeping.{kept_right}
use Rattle.verdict_book.proofs.book.Book.kept.Goals as goal

pub returns : goal.returns
returns g c =
    let t = c.args.ticket in
    c.kept_at.ensures
    ∙ ap (λ l. kept_row (slice_get l t)) c.as_slice.ensures.value
    ∙ kept_right g.W.Work.first_item g.W.Work.children_of g.W.Work.verdict_of g.met.W.Work.parents_apart _ _ _ _ _ _ c.self.invariant t
    ∙ ap (λ (p : Pages). kept_in p.history t) c.self.view_is
