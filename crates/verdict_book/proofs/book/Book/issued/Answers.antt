use Rattle.std.proofs.Common.{◌∙◌, ap, subst, arith}
use Rattle.pool_core.specs.History.{issued_in}
use Rattle.verdict_book.specs.Books.{Pages, CountsTickets, unfiled_in}
use Rattle.verdict_book.proofs.Keeping.{within, rows_are, exactly_issued, counts_tickets}
use Rattle.verdict_book.proofs.book.Book.issued.Goals as goal

pub overflow_cast-result : goal.overflow_cast-result
overflow_cast-result g c =
    omega (arith, within g.W.Work.first_item g.W.Work.children_of g.W.Work.verdict_of g.met.W.Work.parents_apart _ _ _ _ _ _ c.self.invariant, c.self.inside.rows.ok.0, c.len.ensures)

pub returns-clause-count : goal.returns-clause-count
returns-clause-count g c =
    c.len.ensures
    ∙ c.self.inside.rows.ok.0
    ∙ rows_are g.W.Work.first_item g.W.Work.children_of g.W.Work.verdict_of g.met.W.Work.parents_apart _ _ _ _ _ _ c.self.invariant
    ∙ ap (λ (p : Pages). issued_in p.history) c.self.view_is

pub returns-clause-reached : goal.returns-clause-reached
returns-clause-reached g c none =
    exactly_issued g.W.Work.first_item g.W.Work.children_of g.W.Work.verdict_of g.met.W.Work.parents_apart _ _ _ _ _ _ c.self.invariant c.len.result (c.len.ensures ∙ c.self.inside.rows.ok.0) (ap (λ (p : Pages). unfiled_in p.history) c.self.view_is ∙ none)

pub returns-clause-counts : goal.returns-clause-counts
returns-clause-counts g c =
    subst (λ (p : Pages). CountsTickets p.history) c.self.view_is (counts_tickets g.W.Work.first_item g.W.Work.children_of g.W.Work.verdict_of g.met.W.Work.parents_apart _ _ _ _ _ _ c.self.invariant)

pub returns-clause-few : goal.returns-clause-few
returns-clause-few g c =
    omega (arith, within g.W.Work.first_item g.W.Work.children_of g.W.Work.verdict_of g.met.W.Work.parents_apart _ _ _ _ _ _ c.self.invariant, c.self.inside.rows.ok.0, c.len.ensures, ap (λ (p : Pages). p.limit) c.self.view_is)
