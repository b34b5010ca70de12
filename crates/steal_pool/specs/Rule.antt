-- The rule of a deque of tickets: what was pushed on it stands in what it holds and in what was taken from it.
use Rattle.std.specs.Prelude.{ℕ, List, [], ◌∷◌, map, Contains}
use Rattle.pool_core.specs.Deques.{Balanced}
use Rattle.steal_pool.specs.declared.rule.SeatView.{SeatView}

-- a seat that pushed and took these tickets
abbrev pub seat_view : List ℕ → List ℕ → SeatView
seat_view pushed taken = record { pushed = pushed; taken = taken }

-- a seat that pushed and took nothing
abbrev pub new_seat : SeatView
new_seat = seat_view [] []

-- what the owner pushed, whose seat is the first one
abbrev pub pushed_by_owner : List SeatView → List ℕ
pushed_by_owner [] = []
pushed_by_owner (owner ∷ others) = owner.pushed

-- what each seat took
abbrev pub taken_by_seats : List SeatView → List (List ℕ)
taken_by_seats seats = map (λ (seat : SeatView). seat.taken) seats

-- what the owner pushed is balanced by what the deque holds and what all seats took
abbrev pub KeepsBalance : List ℕ → List SeatView → Type 0
KeepsBalance held seats = Balanced (pushed_by_owner seats) (taken_by_seats seats) held

-- at one moment the deque held these tickets, in balance, and this seat had this view
abbrev pub IsHeldBeside : SeatView → List ℕ → Type 0
IsHeldBeside seat held = (seats : List SeatView) × KeepsBalance held seats × Contains seats seat

-- at one moment the deque held nothing, in balance, and this seat had this view
abbrev pub WasEmpty : SeatView → Type 0
WasEmpty seat = IsHeldBeside seat []
