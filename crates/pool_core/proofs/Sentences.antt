-- Each sentence of the pool law holds of a pool that is reached.
use Rattle.std.proofs.Common.{◌≡◌, ℕ, ◌≤◌, ◌==◌, Bool, true, false, cond, List, get_or, None, slice_get, refl, sym, ◌∙◌, ap, subst, arith}
use Rattle.std.proofs.lemmas.Bool.{and_from, le-leb, eq-eqb}
use Rattle.std.proofs.lemmas.Option.{slice_get-get_or}
use Rattle.pool_core.specs.declared.spot.Spot.TheVariants.{Filed}
use Rattle.pool_core.specs.Deques.{times, taken_from}
use Rattle.pool_core.specs.declared.event.Event.{Event}
use Rattle.pool_core.specs.Pools.{Pool, new_pool, deque_of, spot_of}
use Rattle.pool_core.specs.Refusals.{refusal}
use Rattle.pool_core.specs.Steps.{happens, run}
use Rattle.pool_core.specs.Law.{EachHasOneSpot, WaitsWhereItStands, StandsOnceAtMost, TakesInOrder, HasBalancedDeques, ClaimsOnce, FilesOnce, FilesAfterClaim, HasLegalShadow, ReplaysToItself, IsRunOfAccepted}
use Rattle.pool_core.proofs.Lists.{count_by-append}
use Rattle.pool_core.proofs.Queued.{waits_in, waits_from_times}
use Rattle.pool_core.proofs.Takers.{times_of_each}
use Rattle.pool_core.proofs.Sound.{Sound, sound_new, sound_run, sound_happens}

at_most_one : (n : ℕ) (b : Bool) → n ≡ cond b 1 0 → n ≤ 1
at_most_one n true h = omega arith
at_most_one n false h = omega arith

module _ (pool : Pool) (s : Sound pool) where
  -- each issued ticket has one spot
  pub each_has_one_spot : EachHasOneSpot pool
  each_has_one_spot t h =
      let is = slice_get-get_or pool.spots t Filed h in
      record { spot = get_or pool.spots t Filed; is = is; no_other = λ other e. cc (is, e) }

  -- a ticket waits in a deque exactly where it stands once in it
  pub waits_where_it_stands : WaitsWhereItStands pool
  waits_where_it_stands t d = (
    λ e. s.queued.stands t d ∙ rw (e, eq-eqb d d refl) refl,
    λ e. waits_from_times d 0 (spot_of pool t) (sym e ∙ s.queued.stands t d),
  )

  -- no ticket stands in a deque twice
  pub stands_once_at_most : StandsOnceAtMost pool
  stands_once_at_most t d = at_most_one _ (waits_in d (slice_get pool.spots t)) (s.queued.stands t d)

  -- what was taken from a deque is the beginning of what was pushed on it
  pub takes_in_order : TakesInOrder pool
  takes_in_order d = ((deque_of pool d).held, s.queued.splits d)

  -- what was pushed on a deque is balanced by what it holds and what each worker took from it
  pub keeps_balance : HasBalancedDeques pool
  keeps_balance d t =
      let deque = deque_of pool d in
      let whole = count_by-append (λ x. x == t) (taken_from deque) deque.held in
      let each = times_of_each t pool.workers deque.taken (s.queued.takers d) in
      ap (times t) (sym (s.queued.splits d)) ∙ omega (arith, whole, each)

  -- each ticket is claimed at most once
  pub claims_once : ClaimsOnce pool
  claims_once t = at_most_one _ _ (s.booked.claims t)

  -- each ticket is filed at most once
  pub files_once : FilesOnce pool
  files_once t = at_most_one _ _ (s.booked.filings t)

  -- before each filing stands the claim of its ticket by the same worker
  pub files_after_claim : FilesAfterClaim pool
  files_after_claim = s.booked.filed_after

  -- the accepted events make a legal history of the verdict book
  pub has_legal_shadow : HasLegalShadow pool
  has_legal_shadow = and_from _ _ s.booked.legal (le-leb _ _ (omega (arith, s.booked.issued, s.booked.within)))

  -- the history replays to the pool's issued, claimed and filed tickets, and to the cause of its first stop
  pub replays_to_itself : ReplaysToItself pool
  replays_to_itself = record { issued = s.booked.issued; claimed = s.booked.claimed; filed = s.booked.filed; stopped = s.booked.stopped }

  -- the pool is the one after its accepted events alone
  pub is_run_of_accepted : IsRunOfAccepted pool
  unfolding run
  is_run_of_accepted = sym s.replayed

-- the sentences of the law together
pub record Lawful (pool : Pool) : Type 0 where
  pub one_spot : EachHasOneSpot pool
  pub waits : WaitsWhereItStands pool
  pub no_twice : StandsOnceAtMost pool
  pub in_order : TakesInOrder pool
  pub balance : HasBalancedDeques pool
  pub claims : ClaimsOnce pool
  pub filings : FilesOnce pool
  pub after_claim : FilesAfterClaim pool
  pub legal : HasLegalShadow pool
  pub replay : ReplaysToItself pool
  pub run : IsRunOfAccepted pool

-- all sentences of the law hold of a sound pool
pub lawful : (pool : Pool) → Sound pool → Lawful pool
lawful pool s =
    record {
      one_spot = each_has_one_spot pool s;
      waits = waits_where_it_stands pool s;
      no_twice = stands_once_at_most pool s;
      in_order = takes_in_order pool s;
      balance = keeps_balance pool s;
      claims = claims_once pool s;
      filings = files_once pool s;
      after_claim = files_after_claim pool s;
      legal = has_legal_shadow pool s;
      replay = replays_to_itself pool s;
      run = is_run_of_accepted pool s;
    }

-- all sentences of the law hold of a pool after any events, if a ticket may be issued
pub lawful_run : (workers limit : ℕ) (events : List Event) → 1 ≤ limit → Lawful (run workers limit events)
lawful_run workers limit events some = lawful (run workers limit events) (sound_run workers limit events some)

-- all sentences of the law hold of a new pool, if a ticket may be issued
pub lawful_new : (workers limit : ℕ) → 1 ≤ limit → Lawful (new_pool workers limit)
lawful_new workers limit some = lawful (new_pool workers limit) (sound_new workers limit some)

sound_from_run : (pool : Pool) → IsRunOfAccepted pool → 1 ≤ pool.limit → Sound pool
sound_from_run pool is some = subst Sound (sym is) (sound_run pool.workers pool.limit pool.accepted some)

-- all sentences of the law hold of a pool that a call leaves as it was
pub lawful_same : (pool new : Pool) → IsRunOfAccepted pool → 1 ≤ pool.limit → new ≡ pool → Lawful new
lawful_same pool new is some e = subst Lawful (sym e) (lawful pool (sound_from_run pool is some))

-- all sentences of the law hold of the pool after an accepted event
pub lawful_happens : (pool new : Pool) (event : Event) → IsRunOfAccepted pool → 1 ≤ pool.limit → refusal pool event ≡ None → new ≡ happens pool event → Lawful new
lawful_happens pool new event is some ok e = subst Lawful (sym e) (lawful (happens pool event) (sound_happens pool event (sound_from_run pool is some) ok))
