-- What contracts see of a book, and what its history replays to.
use Rattle.std.specs.Prelude.{◌≡◌, ℕ, ◌-◌, ◌<◌, ◌≤◌, Bool, true, false, nat_lt, if◌then◌else◌, List, [], ◌∷◌, ◌++◌, count_by, Some, is_none}
use Rattle.pool_core.specs.declared.history.HistoryEntry.{HistoryEntry}
use Rattle.pool_core.specs.declared.history.HistoryEntry.TheVariants.{Claim, File, Stop}
use Rattle.pool_core.specs.declared.event.StopCause.{StopCause}
use Rattle.pool_core.specs.declared.event.StopCause.TheVariants.{Full}
use Rattle.pool_core.specs.History.{claims, files, issued_in, is_claimed_in, is_filed_in, first_stop, is_legal}
use Rattle.verdict_book.specs.declared.claim.Kept.{Kept}
use Rattle.verdict_book.specs.declared.claim.Kept.TheVariants.{Unknown, Issued as KeptIssued, Claimed as KeptClaimed, Filed as KeptFiled}
use Rattle.verdict_book.specs.Items.{AllCountRight, ReachesMore}

-- the limit of tickets, and the history, which says all else
pub record Pages : Type 0 where
  pub limit : ℕ
  pub history : List HistoryEntry

-- the entry is a claim
abbrev pub is_claim : HistoryEntry → Bool
is_claim (Claim ticket) = true
is_claim entry = false

-- the entry is a filing
abbrev pub is_filing : HistoryEntry → Bool
is_filing (File ticket children) = true
is_filing entry = false

-- the entry is a stop
abbrev pub is_stop : HistoryEntry → Bool
is_stop (Stop cause) = true
is_stop entry = false

-- how many claims were given
abbrev pub claims_in : List HistoryEntry → ℕ
claims_in history = count_by is_claim history

-- how many tickets were filed
abbrev pub filings_in : List HistoryEntry → ℕ
filings_in history = count_by is_filing history

-- how many issued tickets aren't filed
abbrev pub unfiled_in : List HistoryEntry → ℕ
unfiled_in history = issued_in history - filings_in history

-- each issued ticket was claimed once and filed once
abbrev pub EachOnce : List HistoryEntry → Type 0
EachOnce history =
    (ticket : ℕ) → ticket < issued_in history
    → (count_by (claims ticket) history ≡ 1) × (count_by (files ticket) history ≡ 1)

-- each claimed ticket was filed
abbrev pub NoneInHand : List HistoryEntry → Type 0
NoneInHand history = (ticket : ℕ) → is_claimed_in history ticket ≡ true → is_filed_in history ticket ≡ true

-- how many claims and filings a book's history has: no more filings than claims, and no more claims than tickets were
-- issued; where they are as many, each claimed ticket was filed; and where each issued ticket was filed, nothing is unfiled
pub record CountsTickets (history : List HistoryEntry) : Type 0 where
  pub filings : filings_in history ≤ claims_in history
  pub claims : claims_in history ≤ issued_in history
  pub none_in_hand : claims_in history ≡ filings_in history → NoneInHand history
  pub all_filed : ((ticket : ℕ) → ticket < issued_in history → is_filed_in history ticket ≡ true)
      → unfiled_in history ≡ 0

-- what is kept of a ticket
abbrev pub kept_in : List HistoryEntry → ℕ → Kept
kept_in history ticket =
    if nat_lt ticket (issued_in history) then
    (if is_filed_in history ticket then KeptFiled
    else (if is_claimed_in history ticket then KeptClaimed else KeptIssued))
    else Unknown

-- the history after a stop: only the first one adds an entry
abbrev pub history_stopped : List HistoryEntry → StopCause → List HistoryEntry
history_stopped history cause = if is_none (first_stop history) then history ++ Stop cause ∷ [] else history

-- what holds of each book: its history is legal and has at most one stop, each filing issues all children of its item,
-- and where it was stopped for want of room more items than the limit are reached
pub record IsBookOf {I : Type 0} (first : I) (children : I → List I) (pages : Pages) : Type 0 where
  pub legal : is_legal pages.limit pages.history ≡ true
  pub counts : AllCountRight first children (first ∷ []) pages.history
  pub one_stop : count_by is_stop pages.history ≤ 1
  pub full : first_stop pages.history ≡ Some Full → ReachesMore first children pages.limit
