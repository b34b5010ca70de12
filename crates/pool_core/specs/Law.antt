-- The pool law: what holds of a pool after every list of events.
use Rattle.std.specs.Prelude.{ℕ, ◌≡◌, ◌≤◌, ◌<◌, ◌==◌, ◌↔◌, Bool, true, false, List, take, Option, Some, Contains, count_by, slice_get}
use Rattle.pool_core.specs.declared.event.Event.{Event}
use Rattle.pool_core.specs.declared.event.Event.TheVariants.{Claim, File}
use Rattle.pool_core.specs.declared.spot.Spot.{Spot}
use Rattle.pool_core.specs.declared.spot.Spot.TheVariants.{Waiting, Claimed, Filed}
use Rattle.pool_core.specs.Deques.{times, taken_from, taken_by_each, Balanced, IsPrefixOf}
use Rattle.pool_core.specs.Pools.{Pool, issued, spot_of, deque_of}
use Rattle.pool_core.specs.Steps.{run}
use Rattle.pool_core.specs.History.{issued_in, is_claimed_in, is_filed_in, first_stop, is_legal}
use Rattle.pool_core.specs.Shadow.{shadow}

-- the property holds of the pool after every list of events, for every number of workers and every limit of at least
-- one ticket
abbrev pub AfterEveryRun : (Pool → Type 0) → Type 0
AfterEveryRun Holds = (workers limit : ℕ) (events : List Event) → 1 ≤ limit → Holds (run workers limit events)

-- the ticket has a spot, and no other one
pub record HasOneSpot (pool : Pool) (ticket : ℕ) : Type 0 where
  pub spot : Spot
  pub is : spot_of pool ticket ≡ Some spot
  pub no_other : (other : Spot) → spot_of pool ticket ≡ Some other → other ≡ spot

-- each issued ticket has one spot
abbrev pub EachHasOneSpot : Pool → Type 0
EachHasOneSpot pool = (ticket : ℕ) → ticket < issued pool → HasOneSpot pool ticket

-- a ticket waits in a deque exactly where it stands once in it
abbrev pub WaitsWhereItStands : Pool → Type 0
WaitsWhereItStands pool =
    (ticket deque : ℕ) → (spot_of pool ticket ≡ Some (Waiting deque)) ↔ (times ticket (deque_of pool deque).held ≡ 1)

-- no ticket stands in a deque twice
abbrev pub StandsOnceAtMost : Pool → Type 0
StandsOnceAtMost pool = (ticket deque : ℕ) → times ticket (deque_of pool deque).held ≤ 1

-- what was taken from a deque is the beginning of what was pushed on it
abbrev pub TakesInOrder : Pool → Type 0
TakesInOrder pool = (deque : ℕ) → IsPrefixOf (taken_from (deque_of pool deque)) (deque_of pool deque).pushed

-- what was pushed on a deque is balanced by what it holds and what each worker took from it
abbrev pub HasBalancedDeques : Pool → Type 0
HasBalancedDeques pool =
    (deque : ℕ) → Balanced (deque_of pool deque).pushed (taken_by_each (deque_of pool deque) pool.workers) (deque_of pool deque).held

-- the event claims the ticket
abbrev pub is_claim_of : ℕ → Event → Bool
is_claim_of ticket (Claim worker t) = t == ticket
is_claim_of ticket event = false

-- the event files the ticket
abbrev pub is_filing_of : ℕ → Event → Bool
is_filing_of ticket (File worker t children) = t == ticket
is_filing_of ticket event = false

-- each ticket is claimed at most once
abbrev pub ClaimsOnce : Pool → Type 0
ClaimsOnce pool = (ticket : ℕ) → count_by (is_claim_of ticket) pool.accepted ≤ 1

-- each ticket is filed at most once
abbrev pub FilesOnce : Pool → Type 0
FilesOnce pool = (ticket : ℕ) → count_by (is_filing_of ticket) pool.accepted ≤ 1

-- before each filing stands the claim of its ticket by the same worker
abbrev pub FilesAfterClaim : Pool → Type 0
FilesAfterClaim pool =
    (place worker ticket children : ℕ) → slice_get pool.accepted place ≡ Some (File worker ticket children) → Contains (take place pool.accepted) (Claim worker ticket)

-- the accepted events make a legal history of the verdict book
abbrev pub HasLegalShadow : Pool → Type 0
HasLegalShadow pool = is_legal pool.limit (shadow pool.accepted) ≡ true

-- a spot of a ticket that was claimed, and perhaps filed
abbrev pub spot_is_claimed : Option Spot → Bool
spot_is_claimed (Some (Claimed worker)) = true
spot_is_claimed (Some Filed) = true
spot_is_claimed spot = false

-- a spot of a ticket that was filed
abbrev pub spot_is_filed : Option Spot → Bool
spot_is_filed (Some Filed) = true
spot_is_filed spot = false

-- the history of the accepted events replays to the same issued, claimed and filed tickets, and to the cause of the
-- first stop
pub record ReplaysToItself (pool : Pool) : Type 0 where
  pub issued : issued_in (shadow pool.accepted) ≡ issued pool
  pub claimed : (ticket : ℕ) → is_claimed_in (shadow pool.accepted) ticket ≡ spot_is_claimed (spot_of pool ticket)
  pub filed : (ticket : ℕ) → is_filed_in (shadow pool.accepted) ticket ≡ spot_is_filed (spot_of pool ticket)
  pub stopped : first_stop (shadow pool.accepted) ≡ pool.stop

-- the pool is the one after its accepted events alone
abbrev pub IsRunOfAccepted : Pool → Type 0
IsRunOfAccepted pool = pool ≡ run pool.workers pool.limit pool.accepted
