-- Why a pool refuses an event: the first of the causes that applies, in this order.
use Rattle.std.specs.Prelude.{ℕ, ◌≡◌, ◌⊎◌, ◌+◌, ◌==◌, Bool, false, nat_lt, nat_le, if◌then◌else◌, List, [], ◌∷◌, Option, Some, None, option_map, option_and_then, option_to_list, is_some, length, Result, Ok, Err}
use Rattle.std.specs.List.{find}
use Rattle.std.specs.Option.{option_or}
use Rattle.pool_core.specs.declared.event.Event.{Event}
use Rattle.pool_core.specs.declared.event.Event.TheVariants.{Push, Pop, Steal, Claim, File, Stop}
use Rattle.pool_core.specs.declared.spot.Spot.{Spot}
use Rattle.pool_core.specs.declared.spot.Spot.TheVariants.{Issued, Held, Claimed}
use Rattle.pool_core.specs.declared.fault.StepFault.{StepFault}
use Rattle.pool_core.specs.declared.fault.StepFault.TheVariants.{NoWorker, NoTicket, Illegal, EmptyDeque, TooMany, Stopped}
use Rattle.pool_core.specs.Pools.{Pool, issued, spot_of, deque_of}

-- the workers and deques that an event names
abbrev pub workers_named : Event → List ℕ
workers_named (Push worker ticket) = worker ∷ []
workers_named (Pop worker) = worker ∷ []
workers_named (Steal worker from) = worker ∷ from ∷ []
workers_named (Claim worker ticket) = worker ∷ []
workers_named (File worker ticket children) = worker ∷ []
workers_named (Stop cause) = []

-- the ticket that an event names
abbrev pub ticket_named : Event → Option ℕ
ticket_named (Push worker ticket) = Some ticket
ticket_named (Pop worker) = None
ticket_named (Steal worker from) = None
ticket_named (Claim worker ticket) = Some ticket
ticket_named (File worker ticket children) = Some ticket
ticket_named (Stop cause) = None

-- the deque from which an event takes
abbrev pub deque_named : Event → Option ℕ
deque_named (Push worker ticket) = None
deque_named (Pop worker) = Some worker
deque_named (Steal worker from) = Some from
deque_named (Claim worker ticket) = None
deque_named (File worker ticket children) = None
deque_named (Stop cause) = None

-- the spot is one from which the event moves the ticket that it names
abbrev pub moves_from : Event → Spot → Bool
moves_from (Push worker ticket) (Issued w) = w == worker
moves_from (Claim worker ticket) (Issued w) = w == worker
moves_from (Claim worker ticket) (Held w) = w == worker
moves_from (File worker ticket children) (Claimed w) = w == worker
moves_from event spot = false

-- a worker or deque that isn't below the number of workers
abbrev pub no_worker : Pool → Event → Option StepFault
no_worker pool event = option_map NoWorker (find (nat_le pool.workers) (workers_named event))

-- a ticket that wasn't issued
abbrev pub no_ticket : Pool → Event → Option StepFault
no_ticket pool event = option_map NoTicket (find (nat_le (issued pool)) (option_to_list (ticket_named event)))

-- a claim after a stop
abbrev pub stopped : Pool → Event → Option StepFault
stopped pool (Claim worker ticket) = if is_some pool.stop then Some Stopped else None
stopped pool event = None

-- a ticket with a spot from which the event doesn't move it
abbrev pub illegal : Pool → Event → Option StepFault
illegal pool event =
    option_and_then (λ ticket. option_and_then (λ kept. if moves_from event kept then None else Some (Illegal ticket kept)) (spot_of pool ticket)) (ticket_named event)

-- a deque that holds nothing
abbrev pub empty_deque : Pool → Event → Option StepFault
empty_deque pool event =
    option_and_then (λ deque. if length (deque_of pool deque).held == 0 then Some (EmptyDeque deque) else None) (deque_named event)

-- more tickets than the limit
abbrev pub too_many : Pool → Event → Option StepFault
too_many pool (File worker ticket children) =
    if nat_lt pool.limit (issued pool + children) then Some (TooMany (issued pool) pool.limit) else None
too_many pool event = None

-- the first cause that applies
abbrev pub refusal : Pool → Event → Option StepFault
refusal pool event =
    option_or (no_worker pool event)
    (option_or (no_ticket pool event)
    (option_or (stopped pool event)
    (option_or (illegal pool event)
    (option_or (empty_deque pool event) (too_many pool event)))))

-- the call gives the refusal where there is one; else it is done, or gives the fault that is free, as `NoMemory`
abbrev pub RefusesOr : {T E : Type 0} → E → Result T E → Option E → Type 0
RefusesOr free (Ok value) refusal = refusal ≡ None
RefusesOr free (Err fault) refusal = (refusal ≡ Some fault) ⊎ ((fault ≡ free) × (refusal ≡ None))
