-- What a slot counts.
use Rattle.std.specs.Prelude.{◌≡◌, ◌⊎◌, ℕ, ◌+◌, ◌<◌, ◌≤◌, List, length, slice_index_or, sum_by, Option, Some, None}
use Rattle.steal_pool.specs.declared.row.OwnRow.{OwnRow}
use Rattle.steal_pool.specs.declared.row.OtherRow.{OtherRow}
use Rattle.steal_pool.specs.declared.slot.Slot.{Slot}
use Rattle.steal_pool.specs.Rows.{own_view, other_view, TookTicket}
use Rattle.steal_pool.specs.Ends.{IsRightCause, ClaimsMet, stop_of}

-- how many tickets a seat took
abbrev pub taken_at : OtherRow → ℕ
taken_at other = length (other_view other).taken

-- how many tickets all seats of a worker took
abbrev pub taken_in : OwnRow → List OtherRow → ℕ
taken_in own others = length (own_view own).taken + sum_by taken_at others

-- one of these seats took the ticket
abbrev pub TookAtOne : List OtherRow → List OtherRow → ℕ → Type 0
TookAtOne others left ticket =
    (place : ℕ) × (place < length others)
    × ((d : OtherRow) → TookTicket (other_view (slice_index_or others place d)) (other_view (slice_index_or left place d)) ticket)

-- the ticket was taken at the own seat, or at one of the others
abbrev pub TookNext : OwnRow → OwnRow → List OtherRow → List OtherRow → ℕ → Type 0
TookNext own own_left others left ticket = TookTicket (own_view own) (own_view own_left) ticket ⊎ TookAtOne others left ticket

-- one where there is a ticket
abbrev pub one_if : Option ℕ → ℕ
one_if (Some ticket) = 1
one_if None = 0

-- nothing was done with the slot, and it has one part of each account
abbrev pub IsUnused : {A B C : Type 0} → Slot A B C → Type 0
IsUnused slot =
    (slot.ended ≡ None) × (slot.share ≡ 0) × (slot.foreign ≡ 0) × (slot.refused ≡ 0)
    × (slot.asked.amount ≡ 0) × (slot.given.amount ≡ 0) × (slot.filed.amount ≡ 0)
    × (slot.asked.parts ≡ 1) × (slot.given.parts ≡ 1) × (slot.filed.parts ≡ 1)

-- the slot has its part of the accounts, as many judging calls as claims, and no more filings than claims; its claims are
-- met, unless its worker ended by a stop, whose cause is right
abbrev pub IsSettledSlot : {A B C I : Type 0} → I → (I → List I) → ℕ → Slot A B C → Type 0
IsSettledSlot first children limit slot =
    (slot.given.parts ≡ 1) × (slot.filed.parts ≡ 1) × (slot.share ≡ slot.given.amount)
    × (slot.filed.amount + slot.foreign ≤ slot.given.amount)
    × ClaimsMet slot.given.amount slot.filed.amount slot.foreign (stop_of slot.ended)
    × IsRightCause first children limit (stop_of slot.ended)
