-- What the fields of a `Core` keep of its pool.
use Rattle.std.specs.Prelude.{ℕ, ◌≡◌, ◌≤◌, List, map, Option}
use Rattle.pool_core.specs.declared.event.Event.{Event}
use Rattle.pool_core.specs.declared.event.StopCause.{StopCause}
use Rattle.pool_core.specs.declared.spot.Spot.{Spot}
use Rattle.pool_core.specs.Deques.{Deque}
use Rattle.pool_core.specs.Pools.{Pool}

-- the fields are those of the pool, and the queues are what its deques hold
pub record IsPoolAfter (pool : Pool) (workers limit : ℕ) (events : List Event) (spots : List Spot) (queues : List (List ℕ)) (stop : Option StopCause) : Type 0 where
  pub workers_are : pool.workers ≡ workers
  pub limit_is : pool.limit ≡ limit
  pub events_are : pool.accepted ≡ events
  pub spots_are : pool.spots ≡ spots
  pub queues_are : map (λ (d : Deque). d.held) pool.deques ≡ queues
  pub stop_is : pool.stop ≡ stop
  pub some_ticket : 1 ≤ limit
