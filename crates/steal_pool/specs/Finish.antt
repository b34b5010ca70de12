-- A book that its caller finishes.
use Rattle.std.specs.Prelude.{◌≡◌, ℕ, ◌<◌, true, List, None}
use Rattle.pool_core.specs.declared.history.HistoryEntry.{HistoryEntry}
use Rattle.pool_core.specs.History.{is_filed_in, first_stop}
use Rattle.verdict_book.specs.Books.{claims_in, filings_in}

-- the history has no stop and as many filings as claims, and each ticket below this one was filed
pub record IsFiledBelow (history : List HistoryEntry) (ticket : ℕ) : Type 0 where
  pub unstopped : first_stop history ≡ None
  pub met : claims_in history ≡ filings_in history
  pub below : (k : ℕ) → k < ticket → is_filed_in history k ≡ true
