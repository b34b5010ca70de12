-- The state of a pool: its tickets by number, and a deque for each worker.
use Rattle.std.specs.Prelude.{ℕ, List, [], ◌∷◌, length, replicate, slice_get, Option, None}
use Rattle.std.specs.List.{slice_index_or}
use Rattle.pool_core.specs.declared.event.Event.{Event}
use Rattle.pool_core.specs.declared.event.StopCause.{StopCause}
use Rattle.pool_core.specs.declared.spot.Spot.{Spot}
use Rattle.pool_core.specs.declared.spot.Spot.TheVariants.{Issued}
use Rattle.pool_core.specs.Deques.{Deque, new_deque}

-- the events accepted so far, the spot of each issued ticket by its number, the deque of each worker, and the cause of
-- the first stop
pub record Pool : Type 0 where
  pub workers : ℕ
  pub limit : ℕ
  pub accepted : List Event
  pub spots : List Spot
  pub deques : List Deque
  pub stop : Option StopCause

-- before the first event ticket 0 is issued to worker 0
abbrev pub new_pool : ℕ → ℕ → Pool
new_pool workers limit =
    record { workers = workers; limit = limit; accepted = []; spots = Issued 0 ∷ []; deques = replicate workers new_deque; stop = None }

-- how many tickets were issued: those with the numbers below
abbrev pub issued : Pool → ℕ
issued pool = length pool.spots

-- where a ticket is, or None where it wasn't issued
abbrev pub spot_of : Pool → ℕ → Option Spot
spot_of pool ticket = slice_get pool.spots ticket

-- the deque of a worker
abbrev pub deque_of : Pool → ℕ → Deque
deque_of pool worker = slice_index_or pool.deques worker new_deque
