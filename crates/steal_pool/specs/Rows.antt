-- What contracts see of the two ends of a deque.
use Rattle.std.specs.Prelude.{◌≡◌, ℕ, ◌∷◌, [], ◌++◌}
use Rattle.crossbeam_deque.specs.Handles.{worker_view, worker_deque, view, stealer_deque}
use Rattle.steal_pool.specs.declared.rule.SeatView.{SeatView}
use Rattle.steal_pool.specs.declared.row.OwnRow.{OwnRow}
use Rattle.steal_pool.specs.declared.row.OtherRow.{OtherRow}
use Rattle.steal_pool.specs.declared.row.other.Stolen.{Stolen}
use Rattle.steal_pool.specs.declared.row.other.Stolen.TheVariants.{Ticket, Nothing, Again}
use Rattle.steal_pool.specs.Rule.{seat_view, WasEmpty}

-- what the owner's seat has pushed and taken
abbrev pub own_view : OwnRow → SeatView
own_view row = worker_view row.deque

-- what the seat has taken; it pushes nothing
abbrev pub other_view : OtherRow → SeatView
other_view row = view row.seat

-- the owner's row is at the same deque as before
abbrev pub IsSameDeque : OwnRow → OwnRow → Type 0
IsSameDeque old new = worker_deque new.deque ≡ worker_deque old.deque

-- the seat is at this deque
abbrev pub IsSeatOf : OwnRow → OtherRow → Type 0
IsSeatOf own other = stealer_deque other.deque ≡ worker_deque own.deque

-- the other row's seat is at the same deque as before
abbrev pub IsSameSeat : OtherRow → OtherRow → Type 0
IsSameSeat old new = stealer_deque new.deque ≡ stealer_deque old.deque

-- the seat took this ticket, and no other
abbrev pub TookTicket : SeatView → SeatView → ℕ → Type 0
TookTicket old new ticket = new.taken ≡ old.taken ++ ticket ∷ []

-- the seat took the first ticket, or at one moment the deque held nothing, or nothing was done
abbrev pub TakesOne : SeatView → SeatView → Stolen → Type 0
TakesOne old new (Ticket ticket) = new ≡ seat_view old.pushed (old.taken ++ ticket ∷ [])
TakesOne old new Nothing = (new ≡ old) × WasEmpty old
TakesOne old new Again = new ≡ old
