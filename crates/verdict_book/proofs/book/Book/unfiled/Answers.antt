use Rattle.std.proofs.Common.{◌∙◌, ap, sym, arith}
use Rattle.std.specs.Prelude.{◌-◌}
use Rattle.pool_core.specs.History.{issued_in}
use Rattle.verdict_book.specs.Books.{Pages, filings_in}
use Rattle.verdict_book.proofs.Keeping.{filed_few, rows_are}
use Rattle.verdict_book.proofs.book.Book.unfiled.Goals as goal

pub overflow_sub-result : goal.overflow_sub-result
overflow_sub-result g c =
    omega (arith, filed_few g.W.Work.first_item g.W.Work.children_of g.W.Work.verdict_of g.met.W.Work.parents_apart _ _ _ _ _ _ c.self.invariant, rows_are g.W.Work.first_item g.W.Work.children_of g.W.Work.verdict_of g.met.W.Work.parents_apart _ _ _ _ _ _ c.self.invariant, ap (λ (p : Pages). issued_in p.history) c.self.view_is, c.issued.ensures.count)

pub returns : goal.returns
returns g c =
    ap (λ n. n - c.self.inside.filed) c.issued.ensures.count
    ∙ ap (λ n. issued_in c.args.self.now.history - n) (sym c.self.invariant.filed_is ∙ ap (λ (p : Pages). filings_in p.history) c.self.view_is)
