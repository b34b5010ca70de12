use Rattle.std.proofs.Common.{◌≡◌, ◌+◌, [], sym, ◌∙◌, ap}
use Rattle.pool_core.specs.History.{first_stop}
use Rattle.verdict_book.specs.Books.{claims_in, filings_in}
use Rattle.steal_pool.proofs.run.untouched.Goals as goal

-- a new book has no history
pub returns : goal.returns
returns g c =
    let none : c.in_ok-book.book.history ≡ [] = c.in_ok-book.ensures.ok.1 in
    (sym (ap claims_in none), ap claims_in none ∙ sym (ap (λ h. filings_in h + 0) none), tt, λ e. ap first_stop none, c.in_ok-book.ensures.ok.0)
