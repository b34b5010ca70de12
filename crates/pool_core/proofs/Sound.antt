-- Each pool that is reached keeps the law.
use Rattle.std.proofs.Common.{◌≡◌, ℕ, zero, suc, ◌≤◌, Bool, false, cond, List, [], ◌∷◌, ◌++◌, length, set, replicate, fold, Option, Some, None, slice_get, refl, sym, ◌∙◌, ap, subst, ◌⊎◌, ⊎_elim}
use Rattle.std.specs.Option.{is_some}
use Rattle.std.proofs.lemmas.List.{length-replicate}
use Rattle.std.proofs.lemmas.List.Sums.{fold_push}
use Rattle.pool_core.specs.declared.event.Event.{Event}
use Rattle.pool_core.specs.declared.event.Event.TheVariants.{Push, Pop, Steal, Claim, File, Stop}
use Rattle.pool_core.specs.declared.fault.StepFault.{StepFault}
use Rattle.pool_core.specs.declared.spot.Spot.{Spot}
use Rattle.pool_core.specs.declared.spot.Spot.TheVariants.{Issued, Waiting, Held, Claimed, Filed}
use Rattle.pool_core.specs.Deques.{new_deque, front_taken}
use Rattle.pool_core.specs.Pools.{Pool, new_pool, deque_of}
use Rattle.pool_core.specs.Refusals.{refusal}
use Rattle.pool_core.specs.Steps.{first_held, deques_taken, happens, after, run}
use Rattle.pool_core.specs.Law.{spot_is_claimed, spot_is_filed}
use Rattle.pool_core.proofs.Lists.{stays_at_set, stays_at_append}
use Rattle.pool_core.proofs.Queued.{Queued, at, waits_in, queued_keep, queued_push, queued_take, first_waits}
use Rattle.pool_core.proofs.Booked.{Booked, is_claimed_by, booked_quiet, booked_claim, booked_file, booked_stop}
use Rattle.pool_core.proofs.Accepts.{AcceptsTake, accepts_push, accepts_pop, accepts_steal, accepts_claim, accepts_file}
use Rattle.std.proofs.lemmas.Option.{slice_get_within}
use Rattle.std.proofs.lemmas.List.{length-set}

-- the deques and the history keep the law, and the accepted events alone lead to the pool
pub record Sound (pool : Pool) : Type 0 where
  pub queued : Queued pool.workers pool.spots pool.deques
  pub booked : Booked pool.limit pool.accepted pool.spots pool.stop
  pub replayed : fold after (new_pool pool.workers pool.limit) pool.accepted ≡ pool

at_new : (n d : ℕ) → at (replicate n new_deque) d ≡ new_deque
at_new zero d = refl
at_new (suc n) zero = refl
at_new (suc n) (suc d) = at_new n d

-- what f says of the first ticket is what it says of none
at_first : {Y : Type 0} (f : Option Spot → Y) → f None ≡ f (Some (Issued 0)) → (t : ℕ) → f (slice_get (Issued 0 ∷ []) t) ≡ f None
at_first f e zero = sym e
at_first f e (suc t) = refl

-- a new pool is sound, if a ticket may be issued
pub sound_new : (workers limit : ℕ) → 1 ≤ limit → Sound (new_pool workers limit)
sound_new workers limit some =
    record {
      queued = record {
        each = length-replicate workers new_deque;
        stands = λ t d. rw (at_new workers d, at_first (waits_in d) refl t) refl;
        splits = λ d. rw (at_new workers d) refl;
        takers = λ d. rw (at_new workers d) tt;
      };
      booked = record {
        within = some;
        claims = λ t. rw (at_first spot_is_claimed refl t) refl;
        filings = λ t. rw (at_first spot_is_filed refl t) refl;
        claimers = λ w t h. absurd (let e = at_first (is_claimed_by w) refl t in cc (e, h));
        filed_after = λ k w t c h. absurd cc;
        legal = refl;
        issued = refl;
        claimed = λ t. sym (at_first spot_is_claimed refl t);
        filed = λ t. sym (at_first spot_is_filed refl t);
        stopped = refl;
      };
      replayed = refl;
    }

take_queued : (pool : Pool) (w from : ℕ) → Queued pool.workers pool.spots pool.deques → AcceptsTake pool w from → Queued pool.workers (first_held pool.spots w (deque_of pool from).held) (deques_taken pool w from)
take_queued pool w from q a =
    subst (λ (h : List ℕ). Queued pool.workers (first_held pool.spots w h) (set pool.deques from (front_taken w (at pool.deques from) h)))
    (sym a.held) (queued_take pool.workers pool.spots pool.deques w from a.first a.rest q a.worker a.deque a.held)

take_booked : (pool : Pool) (w from : ℕ) (event : Event) → Sound pool → AcceptsTake pool w from → ((spots : List Spot) → length spots ≡ length pool.spots
    → ((t : ℕ) → spot_is_claimed (slice_get spots t) ≡ spot_is_claimed (slice_get pool.spots t))
    → ((t : ℕ) → spot_is_filed (slice_get spots t) ≡ spot_is_filed (slice_get pool.spots t))
    → ((v t : ℕ) → is_claimed_by v (slice_get spots t) ≡ is_claimed_by v (slice_get pool.spots t))
    → Booked pool.limit (pool.accepted ++ event ∷ []) spots pool.stop)
    → Booked pool.limit (pool.accepted ++ event ∷ []) (first_held pool.spots w (deque_of pool from).held) pool.stop
take_booked pool w from event s a quiet =
    let waits = first_waits pool.workers pool.spots pool.deques from a.first a.rest s.queued a.held in
    let ht = slice_get_within pool.spots a.first (Waiting from) waits.0 in
    subst (λ (h : List ℕ). Booked pool.limit (pool.accepted ++ event ∷ []) (first_held pool.spots w h) pool.stop) (sym a.held)
    (quiet (set pool.spots a.first (Held w)) (length-set pool.spots a.first (Held w))
    (stays_at_set spot_is_claimed pool.spots a.first (Held w) ht (ap spot_is_claimed waits.0))
    (stays_at_set spot_is_filed pool.spots a.first (Held w) ht (ap spot_is_filed waits.0))
    (λ v. stays_at_set (is_claimed_by v) pool.spots a.first (Held w) ht (ap (is_claimed_by v) waits.0)))

-- an accepted event leads on from the accepted events before it
replayed_more : (pool : Pool) (event : Event) → Sound pool → refusal pool event ≡ None → fold after (new_pool pool.workers pool.limit) (pool.accepted ++ event ∷ []) ≡ happens pool event
replayed_more pool event s h =
    fold_push after (new_pool pool.workers pool.limit) pool.accepted event ∙ rw (s.replayed, h) refl

-- a test that fails where the worker has or holds a ticket
unclaimed : (w : ℕ) (s : Option Spot) → (s ≡ Some (Issued w)) ⊎ (s ≡ Some (Held w)) → (f : Option Spot → Bool) → f (Some (Issued w)) ≡ false → f (Some (Held w)) ≡ false → f s ≡ false
unclaimed w s kept f i h = ⊎_elim (λ (e : s ≡ Some (Issued w)). ap f e ∙ i) (λ (e : s ≡ Some (Held w)). ap f e ∙ h) kept

-- an accepted event keeps the law
pub sound_happens : (pool : Pool) (event : Event) → Sound pool → refusal pool event ≡ None → Sound (happens pool event)
sound_happens pool (Push w t) s h =
    let a = accepts_push pool w t h in
    record {
      queued = queued_push pool.workers pool.spots pool.deques w t s.queued a.worker a.ticket (λ d. ap (waits_in d) a.kept);
      booked = booked_quiet pool.limit pool.accepted pool.spots (set pool.spots t (Waiting w)) pool.stop (Push w t) s.booked refl (λ _. refl) (λ _. refl) (length-set pool.spots t (Waiting w))
          (stays_at_set spot_is_claimed pool.spots t (Waiting w) a.ticket (ap spot_is_claimed a.kept))
          (stays_at_set spot_is_filed pool.spots t (Waiting w) a.ticket (ap spot_is_filed a.kept))
          (λ v. stays_at_set (is_claimed_by v) pool.spots t (Waiting w) a.ticket (ap (is_claimed_by v) a.kept));
      replayed = replayed_more pool (Push w t) s h;
    }
sound_happens pool (Pop w) s h =
    let a = accepts_pop pool w h in
    record {
      queued = take_queued pool w w s.queued a;
      booked = take_booked pool w w (Pop w) s a (λ spots. booked_quiet pool.limit pool.accepted pool.spots spots pool.stop (Pop w) s.booked refl (λ _. refl) (λ _. refl));
      replayed = replayed_more pool (Pop w) s h;
    }
sound_happens pool (Steal w from) s h =
    let a = accepts_steal pool w from h in
    record {
      queued = take_queued pool w from s.queued a;
      booked = take_booked pool w from (Steal w from) s a (λ spots. booked_quiet pool.limit pool.accepted pool.spots spots pool.stop (Steal w from) s.booked refl (λ _. refl) (λ _. refl));
      replayed = replayed_more pool (Steal w from) s h;
    }
sound_happens pool (Claim w t) s h =
    let a = accepts_claim pool w t h in
    let no : (f : Option Spot → Bool) → f (Some (Issued w)) ≡ false → f (Some (Held w)) ≡ false → f (slice_get pool.spots t) ≡ false = unclaimed w (slice_get pool.spots t) a.kept in
    record {
      queued = queued_keep pool.workers pool.spots (set pool.spots t (Claimed w)) pool.deques (λ d. stays_at_set (waits_in d) pool.spots t (Claimed w) a.ticket (no (waits_in d) refl refl)) s.queued;
      booked = subst (λ o. Booked pool.limit (pool.accepted ++ Claim w t ∷ []) (set pool.spots t (Claimed w)) o) (sym a.going)
          (booked_claim pool.limit pool.accepted pool.spots w t (subst (λ o. Booked pool.limit pool.accepted pool.spots o) a.going s.booked) a.ticket (no spot_is_claimed refl refl) (no spot_is_filed refl refl));
      replayed = replayed_more pool (Claim w t) s h;
    }
sound_happens pool (File w t c) s h =
    let a = accepts_file pool w t c h in
    record {
      queued = queued_keep pool.workers pool.spots (set pool.spots t Filed ++ replicate c (Issued w)) pool.deques
          (λ d k. stays_at_append (waits_in d) (set pool.spots t Filed) c (Issued w) refl k ∙ stays_at_set (waits_in d) pool.spots t Filed a.ticket (ap (waits_in d) a.kept) k) s.queued;
      booked = booked_file pool.limit pool.accepted pool.spots pool.stop w t c s.booked a.kept a.room;
      replayed = replayed_more pool (File w t c) s h;
    }
sound_happens pool (Stop cause) s h =
    record {
      queued = s.queued;
      booked = booked_stop pool.limit pool.accepted pool.spots pool.stop cause s.booked;
      replayed = replayed_more pool (Stop cause) s h;
    }

after_cases : (pool : Pool) (event : Event) (r : Option StepFault) → refusal pool event ≡ r → Sound pool → Sound (cond (is_some r) pool (happens pool event))
after_cases pool event None h s = sound_happens pool event s h
after_cases pool event (Some fault) h s = s

fold_sound : (pool : Pool) (events : List Event) → Sound pool → Sound (fold after pool events)
fold_sound pool [] s = s
fold_sound pool (event ∷ events) s = fold_sound (after pool event) events (after_cases pool event (refusal pool event) refl s)

-- the law holds after every list of events
pub sound_run : (workers limit : ℕ) (events : List Event) → 1 ≤ limit → Sound (run workers limit events)
unfolding run
sound_run workers limit events some = fold_sound (new_pool workers limit) events (sound_new workers limit some)
