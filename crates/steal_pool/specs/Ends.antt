-- What the end of a worker says of the work.
use Rattle.std.specs.Prelude.{◌≡◌, ℕ, ◌+◌, ◌≤◌, List, Option, Some, None}
use Rattle.pool_core.specs.declared.event.StopCause.{StopCause}
use Rattle.pool_core.specs.declared.event.StopCause.TheVariants.{Full, NoMemory}
use Rattle.verdict_book.specs.Items.{ReachesExactly, ReachesMore}
use Rattle.steal_pool.specs.declared.slot.Ended.{Ended}
use Rattle.steal_pool.specs.declared.slot.Ended.TheVariants.{Whole, Stopped}

-- a stop for want of room says that more items than the limit are reached
abbrev pub IsRightCause : {I : Type 0} → I → (I → List I) → ℕ → Option StopCause → Type 0
IsRightCause first children limit (Some Full) = ReachesMore first children limit
IsRightCause first children limit (Some NoMemory) = Unit {0}
IsRightCause first children limit None = Unit {0}

-- a whole end says how many items are reached, and a stop for want of room that they are more than the limit
abbrev pub IsRightEnd : {I : Type 0} → I → (I → List I) → ℕ → Ended → Type 0
IsRightEnd first children limit (Whole count) = ReachesExactly first children count
IsRightEnd first children limit (Stopped cause) = IsRightCause first children limit (Some cause)

-- the cause for which a worker ended, if it ended by a stop
abbrev pub stop_of : Option Ended → Option StopCause
stop_of (Some (Stopped cause)) = Some cause
stop_of (Some (Whole count)) = None
stop_of None = None

-- each claim that was given was filed, or its filing was foreign; after a stop some claims may be neither
abbrev pub ClaimsMet : ℕ → ℕ → ℕ → Option StopCause → Type 0
ClaimsMet given filed foreign None = given ≡ filed + foreign
ClaimsMet given filed foreign (Some cause) = filed + foreign ≤ given

-- a worker has ended, and what its end says; a worker with a whole end met each of its claims
abbrev pub HasRightEnd : {I : Type 0} → I → (I → List I) → ℕ → ℕ → ℕ → ℕ → Option Ended → Type 0
HasRightEnd first children limit given filed foreign None = ⊥
HasRightEnd first children limit given filed foreign (Some (Whole count)) =
    ReachesExactly first children count × (given ≡ filed + foreign)
HasRightEnd first children limit given filed foreign (Some (Stopped cause)) =
    IsRightCause first children limit (Some cause)

-- of two causes that of want of room goes first
abbrev pub first_cause : Option StopCause → Option StopCause → Option StopCause
first_cause None other = other
first_cause (Some Full) other = Some Full
first_cause (Some NoMemory) None = Some NoMemory
first_cause (Some NoMemory) (Some other) = Some other
