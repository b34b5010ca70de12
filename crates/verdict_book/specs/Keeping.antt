-- What the fields of a book keep of its history.
use Rattle.std.specs.Prelude.{◌≡◌, ℕ, ◌<◌, Bool, true, false, List, ◌++◌, map, slice_set, count_by, length, Option, Some, None, slice_get}
use Rattle.pool_core.specs.declared.event.StopCause.{StopCause}
use Rattle.pool_core.specs.History.{is_claimed_in, is_filed_in, first_stop}
use Rattle.verdict_book.specs.Items.{items_of}
use Rattle.verdict_book.specs.Books.{Pages, IsBookOf, claims_in, filings_in}
use Rattle.verdict_book.specs.declared.row.TicketState.{TicketState}
use Rattle.verdict_book.specs.declared.row.TicketState.TheVariants.{Issued, Claimed, Filed}
use Rattle.verdict_book.specs.declared.row.Row.{Row}
use Rattle.verdict_book.specs.declared.claim.Kept.{Kept}
use Rattle.verdict_book.specs.declared.claim.Kept.TheVariants.{Unknown, Issued as KeptIssued, Claimed as KeptClaimed, Filed as KeptFiled}

-- what is kept of a ticket, by its state
abbrev pub kept_state : {V : Type 0} → TicketState V → Kept
kept_state Issued = KeptIssued
kept_state Claimed = KeptClaimed
kept_state (Filed verdict) = KeptFiled

-- what is kept of a ticket, by its row, which only an issued one has
abbrev pub kept_row : {I V : Type 0} → Option (Row I V) → Kept
kept_row None = Unknown
kept_row (Some row) = kept_state row.state

-- the row of a new ticket
abbrev pub new_row : {I V : Type 0} → I → Row I V
new_row item = record { item = item; state = Issued }

-- the rows after this one at a place was filed and these children had tickets issued
abbrev pub rows_filed : {I V : Type 0} → List (Row I V) → ℕ → V → List I → Row I V → List (Row I V)
rows_filed rows place verdict children row =
    slice_set rows place (record { item = row.item; state = Filed verdict }) ++ map new_row children

-- a state of a ticket that was claimed, and perhaps filed
abbrev pub is_taken : {V : Type 0} → TicketState V → Bool
is_taken Issued = false
is_taken Claimed = true
is_taken (Filed verdict) = true

-- a state of a ticket that was filed
abbrev pub is_filed : {V : Type 0} → TicketState V → Bool
is_filed Issued = false
is_filed Claimed = false
is_filed (Filed verdict) = true

-- the state is what the history says of the ticket, and the verdict is that of its item
abbrev pub StateIs : {I V : Type 0} → (I → V) → I → TicketState V → Bool → Bool → Type 0
StateIs verdict_of item Issued claimed filed = (claimed ≡ false) × (filed ≡ false)
StateIs verdict_of item Claimed claimed filed = (claimed ≡ true) × (filed ≡ false)
StateIs verdict_of item (Filed verdict) claimed filed = (claimed ≡ true) × (filed ≡ true) × (verdict ≡ verdict_of item)

-- the rows are the tickets of the history, with their items, states and verdicts; the cause is that of the first stop,
-- so many are filed, and an unstopped book has room for the entry of its stop
pub record IsBookAfter {I V : Type 0} (first : I) (children : I → List I) (verdict_of : I → V) (pages : Pages)
    (rows : List (Row I V)) (stopped : Option StopCause) (filed places : ℕ) : Type 0 where
  pub right : IsBookOf first children pages
  pub items : map (λ (r : Row I V). r.item) rows ≡ items_of first children pages.history
  pub states : (t : ℕ) (r : Row I V) → slice_get rows t ≡ Some r
      → StateIs verdict_of r.item r.state (is_claimed_in pages.history t) (is_filed_in pages.history t)
  pub stop_is : first_stop pages.history ≡ stopped
  pub filed_is : filings_in pages.history ≡ filed
  pub claimed_rows : claims_in pages.history ≡ count_by (λ (r : Row I V). is_taken r.state) rows
  pub filed_rows : filings_in pages.history ≡ count_by (λ (r : Row I V). is_filed r.state) rows
  pub room : stopped ≡ None → length pages.history < places
