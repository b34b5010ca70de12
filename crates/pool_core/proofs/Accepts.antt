-- What is known of a pool that accepts an event.
use Rattle.std.proofs.Common.{◌≡◌, ℕ, ◌+◌, ◌<◌, ◌≤◌, ◌==◌, leb, ltb, Bool, true, false, cond, List, [], ◌∷◌, length, get_or, Option, Some, None, slice_get, refl, ◌∙◌, ap, ◌⊎◌, inl, inr, ⊎_elim}
use Rattle.std.specs.Option.{option_or, option_map, option_and_then, is_some}
use Rattle.std.proofs.lemmas.Bool.{eqb-true, leb-false, ltb-false}
use Rattle.std.proofs.lemmas.Option.{slice_get-get_or}
use Rattle.pool_core.specs.declared.event.Event.TheVariants.{Push, Pop, Steal, Claim, File}
use Rattle.pool_core.specs.declared.event.StopCause.{StopCause}
use Rattle.pool_core.specs.declared.spot.Spot.{Spot}
use Rattle.pool_core.specs.declared.spot.Spot.TheVariants.{Issued, Waiting, Held, Claimed, Filed}
use Rattle.pool_core.specs.declared.fault.StepFault.{StepFault}
use Rattle.pool_core.specs.declared.fault.StepFault.TheVariants.{NoWorker, NoTicket, Illegal, EmptyDeque, TooMany, Stopped}
use Rattle.pool_core.specs.Pools.{Pool, deque_of}
use Rattle.pool_core.specs.Refusals.{refusal, moves_from}

or_none : (a b : Option StepFault) → option_or a b ≡ None → (a ≡ None) × (b ≡ None)
or_none None b h = (refl, h)
or_none (Some x) b h = absurd cc

map_none : (f : ℕ → StepFault) (o : Option ℕ) → option_map f o ≡ None → o ≡ None
map_none f None h = refl
map_none f (Some x) h = absurd cc

cond_none : {X : Type 0} (b : Bool) (x : X) (o : Option X) → cond b (Some x) o ≡ None → (b ≡ false) × (o ≡ None)
cond_none true x o h = absurd cc
cond_none false x o h = (refl, h)

cond_some : (b : Bool) (fault : StepFault) → cond b None (Some fault) ≡ None → b ≡ true
cond_some true fault h = refl
cond_some false fault h = absurd cc

none_from_test : (o : Option StopCause) → is_some o ≡ false → o ≡ None
none_from_test None h = refl
none_from_test (Some x) h = absurd cc

nonempty : (xs : List ℕ) → (length xs == 0) ≡ false → (t : ℕ) × (rest : List ℕ) × (xs ≡ t ∷ rest)
nonempty [] h = absurd cc
nonempty (x ∷ xs) h = (x, xs, refl)

below : (fault : ℕ → StepFault) (n k : ℕ) → option_map fault (cond (leb n k) (Some k) None) ≡ None → k < n
below fault n k h = leb-false n k (cond_none (leb n k) k None (map_none fault (cond (leb n k) (Some k) None) h)).0

-- a spot from which the event moves its ticket
moved_spot : (test : Spot → Bool) (fault : Spot → StepFault) (spots : List Spot) (t : ℕ) → t < length spots
    → option_and_then (λ kept. cond (test kept) None (Some (fault kept))) (slice_get spots t) ≡ None
    → (kept : Spot) × (slice_get spots t ≡ Some kept) × (test kept ≡ true)
moved_spot test fault spots t ht h =
    let is = slice_get-get_or spots t Filed ht in
    (get_or spots t Filed, is, cond_some (test (get_or spots t Filed)) (fault (get_or spots t Filed)) (rw is at h))

push_from : (w t : ℕ) (s : Spot) → moves_from (Push w t) s ≡ true → s ≡ Issued w
push_from w t (Issued v) h = ap Issued (eqb-true v w h)
push_from w t (Waiting v) h = absurd cc
push_from w t (Held v) h = absurd cc
push_from w t (Claimed v) h = absurd cc
push_from w t Filed h = absurd cc

claim_from : (w t : ℕ) (s : Spot) → moves_from (Claim w t) s ≡ true → (s ≡ Issued w) ⊎ (s ≡ Held w)
claim_from w t (Issued v) h = inl (ap Issued (eqb-true v w h))
claim_from w t (Waiting v) h = absurd cc
claim_from w t (Held v) h = inr (ap Held (eqb-true v w h))
claim_from w t (Claimed v) h = absurd cc
claim_from w t Filed h = absurd cc

file_from : (w t c : ℕ) (s : Spot) → moves_from (File w t c) s ≡ true → s ≡ Claimed w
file_from w t c (Issued v) h = absurd cc
file_from w t c (Waiting v) h = absurd cc
file_from w t c (Held v) h = absurd cc
file_from w t c (Claimed v) h = ap Claimed (eqb-true v w h)
file_from w t c Filed h = absurd cc

-- the worker has the ticket as it was issued
pub record AcceptsPush (pool : Pool) (w t : ℕ) : Type 0 where
  pub worker : w < pool.workers
  pub ticket : t < length pool.spots
  pub kept : slice_get pool.spots t ≡ Some (Issued w)

-- the deque holds a ticket
pub record AcceptsTake (pool : Pool) (w from : ℕ) : Type 0 where
  pub worker : w < pool.workers
  pub deque : from < pool.workers
  pub first : ℕ
  pub rest : List ℕ
  pub held : (deque_of pool from).held ≡ first ∷ rest

-- the worker holds the ticket, or has it as it was issued, and the pool isn't stopped
pub record AcceptsClaim (pool : Pool) (w t : ℕ) : Type 0 where
  pub worker : w < pool.workers
  pub ticket : t < length pool.spots
  pub kept : (slice_get pool.spots t ≡ Some (Issued w)) ⊎ (slice_get pool.spots t ≡ Some (Held w))
  pub going : pool.stop ≡ None

-- the worker claimed the ticket, and there is room for the children
pub record AcceptsFile (pool : Pool) (w t c : ℕ) : Type 0 where
  pub worker : w < pool.workers
  pub ticket : t < length pool.spots
  pub kept : slice_get pool.spots t ≡ Some (Claimed w)
  pub room : length pool.spots + c ≤ pool.limit

-- an accepted push is of a ticket that the worker has as it was issued
pub accepts_push : (pool : Pool) (w t : ℕ) → refusal pool (Push w t) ≡ None → AcceptsPush pool w t
accepts_push pool w t h =
    let a = or_none _ _ h in
    let b = or_none _ _ a.1 in
    let ht = below NoTicket (length pool.spots) t b.0 in
    let c = or_none _ _ b.1 in
    let m = moved_spot (moves_from (Push w t)) (Illegal t) pool.spots t ht c.0 in
    record {
      worker = below NoWorker pool.workers w a.0;
      ticket = ht;
      kept = m.1 ∙ ap Some (push_from w t m.0 m.2);
    }

-- an accepted pop is of a deque of the worker's own that holds a ticket
pub accepts_pop : (pool : Pool) (w : ℕ) → refusal pool (Pop w) ≡ None → AcceptsTake pool w w
accepts_pop pool w h =
    let a = or_none _ _ h in
    let b = or_none _ _ a.1 in
    let held = (deque_of pool w).held in
    let n = nonempty held (cond_none (length held == 0) (EmptyDeque w) None b.0).0 in
    record {
      worker = below NoWorker pool.workers w a.0;
      deque = below NoWorker pool.workers w a.0;
      first = n.0;
      rest = n.1;
      held = n.2;
    }

-- an accepted steal is of a worker's deque that holds a ticket
pub accepts_steal : (pool : Pool) (w from : ℕ) → refusal pool (Steal w from) ≡ None → AcceptsTake pool w from
accepts_steal pool w from h =
    let a = or_none _ _ h in
    let b = or_none _ _ a.1 in
    let named = cond_none (leb pool.workers w) w (cond (leb pool.workers from) (Some from) None) (map_none NoWorker _ a.0) in
    let held = (deque_of pool from).held in
    let n = nonempty held (cond_none (length held == 0) (EmptyDeque from) None b.0).0 in
    record {
      worker = leb-false pool.workers w named.0;
      deque = leb-false pool.workers from (cond_none (leb pool.workers from) from None named.1).0;
      first = n.0;
      rest = n.1;
      held = n.2;
    }

-- an accepted claim is of a ticket that the worker holds, or has as it was issued, in a pool that isn't stopped
pub accepts_claim : (pool : Pool) (w t : ℕ) → refusal pool (Claim w t) ≡ None → AcceptsClaim pool w t
accepts_claim pool w t h =
    let a = or_none _ _ h in
    let b = or_none _ _ a.1 in
    let ht = below NoTicket (length pool.spots) t b.0 in
    let c = or_none _ _ b.1 in
    let d = or_none _ _ c.1 in
    let m = moved_spot (moves_from (Claim w t)) (Illegal t) pool.spots t ht d.0 in
    record {
      worker = below NoWorker pool.workers w a.0;
      ticket = ht;
      kept = ⊎_elim (λ (e : m.0 ≡ Issued w). inl (m.1 ∙ ap Some e)) (λ (e : m.0 ≡ Held w). inr (m.1 ∙ ap Some e)) (claim_from w t m.0 m.2);
      going = none_from_test pool.stop (cond_none (is_some pool.stop) Stopped None c.0).0;
    }

-- an accepted filing is of a ticket that the worker claimed, with room for the children
pub accepts_file : (pool : Pool) (w t c : ℕ) → refusal pool (File w t c) ≡ None → AcceptsFile pool w t c
accepts_file pool w t c h =
    let a = or_none _ _ h in
    let b = or_none _ _ a.1 in
    let ht = below NoTicket (length pool.spots) t b.0 in
    let d = or_none _ _ b.1 in
    let m = moved_spot (moves_from (File w t c)) (Illegal t) pool.spots t ht d.0 in
    let full = cond_none (ltb pool.limit (length pool.spots + c)) (TooMany (length pool.spots) pool.limit) None d.1 in
    record {
      worker = below NoWorker pool.workers w a.0;
      ticket = ht;
      kept = m.1 ∙ ap Some (file_from w t c m.0 m.2);
      room = ltb-false pool.limit (length pool.spots + c) full.0;
    }
