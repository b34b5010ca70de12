-- What an accepted event does, and whole runs.
use Rattle.std.specs.Prelude.{ℕ, List, [], ◌∷◌, ◌++◌, replicate, slice_set, Option, Some, is_some, if◌then◌else◌, fold}
use Rattle.std.specs.Option.{option_or}
use Rattle.pool_core.specs.declared.event.Event.{Event}
use Rattle.pool_core.specs.declared.event.Event.TheVariants.{Push, Pop, Steal, Claim, File, Stop}
use Rattle.pool_core.specs.declared.event.StopCause.{StopCause}
use Rattle.pool_core.specs.declared.spot.Spot.{Spot}
use Rattle.pool_core.specs.declared.spot.Spot.TheVariants.{Issued, Waiting, Held, Claimed, Filed}
use Rattle.pool_core.specs.Deques.{Deque, pushed_back, front_taken}
use Rattle.pool_core.specs.Pools.{Pool, new_pool, deque_of}
use Rattle.pool_core.specs.Refusals.{refusal}

-- the spots after the worker took the first of these tickets
abbrev pub first_held : List Spot → ℕ → List ℕ → List Spot
first_held spots worker [] = spots
first_held spots worker (ticket ∷ rest) = slice_set spots ticket (Held worker)

-- the spots after an event
abbrev pub spots_after : Pool → Event → List Spot
spots_after pool (Push worker ticket) = slice_set pool.spots ticket (Waiting worker)
spots_after pool (Pop worker) = first_held pool.spots worker (deque_of pool worker).held
spots_after pool (Steal worker from) = first_held pool.spots worker (deque_of pool from).held
spots_after pool (Claim worker ticket) = slice_set pool.spots ticket (Claimed worker)
spots_after pool (File worker ticket children) = slice_set pool.spots ticket Filed ++ replicate children (Issued worker)
spots_after pool (Stop cause) = pool.spots

-- the deques after the worker took the first ticket of one
abbrev pub deques_taken : Pool → ℕ → ℕ → List Deque
deques_taken pool worker from =
    slice_set pool.deques from (front_taken worker (deque_of pool from) (deque_of pool from).held)

-- the deques after an event
abbrev pub deques_after : Pool → Event → List Deque
deques_after pool (Push worker ticket) = slice_set pool.deques worker (pushed_back (deque_of pool worker) ticket)
deques_after pool (Pop worker) = deques_taken pool worker worker
deques_after pool (Steal worker from) = deques_taken pool worker from
deques_after pool (Claim worker ticket) = pool.deques
deques_after pool (File worker ticket children) = pool.deques
deques_after pool (Stop cause) = pool.deques

-- the cause that is kept after an event: the first one
abbrev pub stop_after : Pool → Event → Option StopCause
stop_after pool (Stop cause) = option_or pool.stop (Some cause)
stop_after pool event = pool.stop

-- the pool after an event that it accepts
abbrev pub happens : Pool → Event → Pool
happens pool event =
    record {
      workers = pool.workers;
      limit = pool.limit;
      accepted = pool.accepted ++ event ∷ [];
      spots = spots_after pool event;
      deques = deques_after pool event;
      stop = stop_after pool event;
    }

-- the pool after an event, of which a refused one changes nothing
abbrev pub after : Pool → Event → Pool
after pool event = if is_some (refusal pool event) then pool else happens pool event

-- the pool after a list of events
unfoldable pub run : ℕ → ℕ → List Event → Pool
run workers limit events = fold after (new_pool workers limit) events
