-- The history of the verdict book: when it is legal, and what it replays to.
use Rattle.std.specs.Prelude.{ℕ, ◌+◌, ◌==◌, Bool, true, false, ◌&&◌, not, nat_lt, nat_le, List, [], ◌∷◌, ◌++◌, sum_by, Option, Some, None, is_none}
use Rattle.std.specs.List.{list_any}
use Rattle.pool_core.specs.declared.history.HistoryEntry.{HistoryEntry}
use Rattle.pool_core.specs.declared.history.HistoryEntry.TheVariants.{Claim, File, Stop}
use Rattle.pool_core.specs.declared.event.StopCause.{StopCause}

-- how many tickets an entry issues
abbrev pub children_of : HistoryEntry → ℕ
children_of (File ticket children) = children
children_of entry = 0

-- the entry claims the ticket
abbrev pub claims : ℕ → HistoryEntry → Bool
claims ticket (Claim t) = t == ticket
claims ticket entry = false

-- the entry files the ticket
abbrev pub files : ℕ → HistoryEntry → Bool
files ticket (File t children) = t == ticket
files ticket entry = false

-- how many tickets a history issues, in number order: ticket 0, and then those of each filing
abbrev pub issued_in : List HistoryEntry → ℕ
issued_in history = 1 + sum_by children_of history

-- the history claims the ticket
abbrev pub is_claimed_in : List HistoryEntry → ℕ → Bool
is_claimed_in history ticket = list_any (claims ticket) history

-- the history files the ticket
abbrev pub is_filed_in : List HistoryEntry → ℕ → Bool
is_filed_in history ticket = list_any (files ticket) history

-- the cause of the first stop
abbrev pub first_stop : List HistoryEntry → Option StopCause
first_stop [] = None
first_stop (Stop cause ∷ history) = Some cause
first_stop (entry ∷ history) = first_stop history

-- the entry may come after this history: a claim of an issued ticket that wasn't claimed, before any stop; a filing of
-- a ticket that was claimed and not filed; any stop
abbrev pub may_come_next : List HistoryEntry → HistoryEntry → Bool
may_come_next history (Claim ticket) =
    nat_lt ticket (issued_in history) && not (is_claimed_in history ticket) && is_none (first_stop history)
may_come_next history (File ticket children) = is_claimed_in history ticket && not (is_filed_in history ticket)
may_come_next history (Stop cause) = true

-- each of these entries may come after the history and those before it
abbrev pub all_may_follow : List HistoryEntry → List HistoryEntry → Bool
all_may_follow history [] = true
all_may_follow history (entry ∷ entries) = may_come_next history entry && all_may_follow (history ++ entry ∷ []) entries

-- each entry may come after those before it, and the issued tickets are at most the limit
abbrev pub is_legal : ℕ → List HistoryEntry → Bool
is_legal limit history = all_may_follow [] history && nat_le (issued_in history) limit
