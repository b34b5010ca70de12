-- The fields of a `Core` keep their pool at each kind of event.
use Rattle.std.proofs.Common.{◌≡◌, ℕ, zero, suc, ◌+◌, ◌<◌, ◌≤◌, List, [], ◌∷◌, ◌++◌, length, get_or, set, take, drop, map, replicate, fold, Bool, true, false, cond, ltb, ◌-◌, Option, Some, None, slice_get, refl, sym, ◌∙◌, ap, subst, arith}
use Rattle.std.specs.Option.{option_or, IfSome}
use Rattle.std.proofs.lemmas.List.{map-set, length-map, set-append_left, take_all}
use Rattle.std.proofs.lemmas.List.Sums.{fold_push}
use Rattle.std.proofs.lemmas.Bool.Decides.{nat_tests}
use Rattle.std.proofs.lemmas.Option.{slice_get_within}
use Rattle.pool_core.specs.declared.event.Event.{Event}
use Rattle.pool_core.specs.declared.event.Event.TheVariants.{Push, Pop, Steal, Claim, File, Stop}
use Rattle.pool_core.specs.declared.event.StopCause.{StopCause}
use Rattle.pool_core.specs.declared.spot.Spot.{Spot}
use Rattle.pool_core.specs.declared.spot.Spot.TheVariants.{Issued, Waiting, Claimed, Filed}
use Rattle.pool_core.specs.Deques.{Deque, new_deque, pushed_back, front_taken}
use Rattle.pool_core.specs.Pools.{Pool, new_pool, deque_of}
use Rattle.std.specs.Bool.{then_some}
use Rattle.pool_core.specs.declared.fault.StepFault.{StepFault}
use Rattle.pool_core.specs.declared.fault.StepFault.TheVariants.{TooMany}
use Rattle.pool_core.specs.Refusals.{refusal, too_many}
use Rattle.pool_core.specs.Steps.{first_held, spots_after, deques_after, deques_taken, stop_after, happens, after, run}
use Rattle.pool_core.specs.Kept.{IsPoolAfter}
use Rattle.pool_core.proofs.Queued.{at, first_waits}
use Rattle.pool_core.proofs.Accepts.{accepts_push, accepts_pop, accepts_steal, accepts_file}
use Rattle.pool_core.proofs.Sound.{Sound, sound_run}

-- the tickets that a deque holds
abbrev pub held_in : Deque → List ℕ
held_in d = d.held

-- the pool of a run with one more accepted event is the one in which that event happens
pub run_more : (w l : ℕ) (es es' : List Event) (pool : Pool) (event : Event) → run w l es ≡ pool → refusal pool event ≡ None → es' ≡ es ++ event ∷ [] → run w l es' ≡ happens pool event
unfolding run
run_more w l es es' pool event view ok more =
    ap (fold after (new_pool w l)) more ∙ fold_push after (new_pool w l) es event ∙ rw (view, ok) refl

-- before any event the pool is the new one
pub run_none : (w l : ℕ) → run w l [] ≡ new_pool w l
unfolding run
run_none w l = refl

held_new : (n : ℕ) → map held_in (replicate n new_deque) ≡ replicate n []
held_new zero = refl
held_new (suc n) = ap (λ (x : List (List ℕ)). [] ∷ x) (held_new n)

-- the fields before the first event are those of the new pool
pub kept_new : (w l : ℕ) (es : List Event) (spots : List Spot) (queues : List (List ℕ)) → es ≡ [] → spots ≡ Issued 0 ∷ [] → queues ≡ replicate w [] → 1 ≤ l → IsPoolAfter (run w l es) w l es spots queues None
kept_new w l es spots queues e s q some =
    subst (λ (p : Pool). IsPoolAfter p w l es spots queues None) (sym (ap (run w l) e ∙ run_none w l)) (record {
      workers_are = refl;
      limit_is = refl;
      events_are = sym e;
      spots_are = sym s;
      queues_are = held_new w ∙ sym q;
      stop_is = refl;
      some_ticket = some;
    })

at_map : (deques : List Deque) (d : ℕ) → (at deques d).held ≡ get_or (map held_in deques) d []
at_map [] d = refl
at_map (x ∷ deques) zero = refl
at_map (x ∷ deques) (suc d) = at_map deques d

rest_held : (w : ℕ) (deque : Deque) (held : List ℕ) → deque.held ≡ held → (front_taken w deque held).held ≡ drop 1 held
rest_held w deque [] e = e
rest_held w deque (t ∷ rest) e = refl

then_some_is : (b : Bool) (fault : StepFault) → then_some b fault ≡ cond b (Some fault) None
then_some_is true fault = refl
then_some_is false fault = refl

-- resizing a list of spots to one that is longer puts as many new ones behind it
pub resized : (spots : List Spot) (len n c : ℕ) (new : Spot) → len ≡ length spots → n ≡ len + c → take n spots ++ replicate (n - len) new ≡ spots ++ replicate c new
resized spots len n c new e m =
    let more : n - len ≡ c = omega arith in
    ap (λ (x : List Spot). x ++ replicate (n - len) new) (take_all n spots (omega arith)) ∙ ap (λ k. spots ++ replicate k new) more

more_than : (l n c : ℕ) → n ≤ l → ltb (l - n) c ≡ ltb l (n + c)
more_than l n c h = grind (arith, nat_tests)

module _ (w l : ℕ) (es : List Event) (spots : List Spot) (queues : List (List ℕ)) (stop : Option StopCause) (pool : Pool) (view : run w l es ≡ pool) (kept : IsPoolAfter (run w l es) w l es spots queues stop) where
  here : IsPoolAfter pool w l es spots queues stop
  here = subst (λ (p : Pool). IsPoolAfter p w l es spots queues stop) view kept

  -- the pool is sound, as each pool is that is reached
  pub sound_here : Sound pool
  sound_here = subst Sound view (sound_run w l es kept.some_ticket)

  -- how many tickets were issued, and the limit, are those of the fields
  pub few_issued : length spots ≤ l
  few_issued = omega (arith, sound_here.booked.within, here.limit_is, ap length here.spots_are)

  -- there are as many queues as workers
  pub queue_count : length queues ≡ w
  queue_count = ap length (sym here.queues_are) ∙ length-map pool.deques held_in ∙ sound_here.queued.each ∙ here.workers_are

  queue_at : (d : ℕ) → (deque_of pool d).held ≡ get_or queues d []
  queue_at d = at_map pool.deques d ∙ ap (λ (q : List (List ℕ)). get_or q d []) here.queues_are

  -- the first ticket of a queue was issued
  pub first_issued : (d : ℕ) → IfSome (slice_get (get_or queues d []) 0) (λ t. t < length spots)
  first_issued d = first_of (get_or queues d []) (queue_at d) where
    first_of : (held : List ℕ) → (deque_of pool d).held ≡ held → IfSome (slice_get held 0) (λ t. t < length spots)
    first_of [] e = tt
    first_of (t ∷ rest) e =
        let waits = first_waits pool.workers pool.spots pool.deques d t rest sound_here.queued e in
        omega (arith, slice_get_within pool.spots t (Waiting d) waits.0, ap length here.spots_are)

  -- the worker has a queue, and the ticket was issued
  pub push_within : (worker t : ℕ) → refusal pool (Push worker t) ≡ None → (worker < length queues) × (t < length spots)
  push_within worker t ok =
      let a = accepts_push pool worker t ok in
      (omega (arith, a.worker, here.workers_are, queue_count), omega (arith, a.ticket, ap length here.spots_are))

  -- a pop that is accepted is of a queue that is there
  pub pop_within : (worker : ℕ) → refusal pool (Pop worker) ≡ None → worker < length queues
  pop_within worker ok = omega (arith, (accepts_pop pool worker ok).worker, here.workers_are, queue_count)

  -- a steal that is accepted is from a queue that is there
  pub steal_within : (worker from : ℕ) → refusal pool (Steal worker from) ≡ None → from < length queues
  steal_within worker from ok = omega (arith, (accepts_steal pool worker from ok).deque, here.workers_are, queue_count)

  -- a filing that is accepted is of a ticket that was issued, with room for the children
  pub file_within : (worker t c : ℕ) → refusal pool (File worker t c) ≡ None → (t < length spots) × (length spots + c ≤ l)
  file_within worker t c ok =
      let a = accepts_file pool worker t c ok in
      (omega (arith, a.ticket, ap length here.spots_are), omega (arith, a.room, here.limit_is, ap length here.spots_are))

  -- whether there is room for the children of a filing is whether it is refused as too many
  pub too_many_is : (worker t c n : ℕ) → n ≡ length spots → then_some (ltb (l - n) c) (TooMany n l) ≡ too_many pool (File worker t c)
  too_many_is worker t c n e =
      let n_is : n ≡ length pool.spots = e ∙ ap length (sym here.spots_are) in
      let few : n ≤ l = omega (arith, few_issued) in
      then_some_is (ltb (l - n) c) (TooMany n l) ∙ ap (λ b. cond b (Some (TooMany n l)) None) (more_than l n c few)
      ∙ ap (λ x. cond (ltb l (x + c)) (Some (TooMany x l)) None) n_is
      ∙ ap (λ x. cond (ltb x (length pool.spots + c)) (Some (TooMany (length pool.spots) x)) None) (sym here.limit_is)

module _ (w l : ℕ) (es es' : List Event) (spots : List Spot) (queues : List (List ℕ)) (stop : Option StopCause) (pool : Pool) (view : run w l es ≡ pool) (kept : IsPoolAfter (run w l es) w l es spots queues stop) where
  kept_more : (event : Event) (spots' : List Spot) (queues' : List (List ℕ)) (stop' : Option StopCause) → refusal pool event ≡ None → es' ≡ es ++ event ∷ []
      → spots_after pool event ≡ spots' → map held_in (deques_after pool event) ≡ queues' → stop_after pool event ≡ stop'
      → IsPoolAfter (run w l es') w l es' spots' queues' stop'
  kept_more event spots' queues' stop' ok more a b c =
      subst (λ (p : Pool). IsPoolAfter p w l es' spots' queues' stop') (sym (run_more w l es es' pool event view ok more)) (record {
        workers_are = (here w l es spots queues stop pool view kept).workers_are;
        limit_is = (here w l es spots queues stop pool view kept).limit_is;
        events_are = ap (λ x. x ++ event ∷ []) (here w l es spots queues stop pool view kept).events_are ∙ sym more;
        spots_are = a;
        queues_are = b;
        stop_is = c;
        some_ticket = kept.some_ticket;
      })

  -- the fields after an accepted push are those of the pool after it
  pub kept_push : (worker t : ℕ) (queue : List ℕ) → refusal pool (Push worker t) ≡ None → es' ≡ es ++ Push worker t ∷ [] → queue ≡ get_or queues worker [] ++ t ∷ []
      → IsPoolAfter (run w l es') w l es' (set spots t (Waiting worker)) (set queues worker queue) stop
  kept_push worker t queue ok more q =
      kept_more (Push worker t) (set spots t (Waiting worker)) (set queues worker queue) stop ok more
      (ap (λ (s : List Spot). set s t (Waiting worker)) (here w l es spots queues stop pool view kept).spots_are)
      (map-set held_in pool.deques worker (pushed_back (deque_of pool worker) t)
      ∙ ap (λ (x : List (List ℕ)). set x worker ((deque_of pool worker).held ++ t ∷ [])) (here w l es spots queues stop pool view kept).queues_are
      ∙ ap (λ (x : List ℕ). set queues worker (x ++ t ∷ [])) (queue_at w l es spots queues stop pool view kept worker) ∙ ap (set queues worker) (sym q))
      (here w l es spots queues stop pool view kept).stop_is

  spots_taken : (worker from : ℕ) → first_held pool.spots worker (deque_of pool from).held ≡ first_held spots worker (get_or queues from [])
  spots_taken worker from =
      ap (λ (s : List Spot). first_held s worker (deque_of pool from).held) (here w l es spots queues stop pool view kept).spots_are ∙ ap (first_held spots worker) (queue_at w l es spots queues stop pool view kept from)

  queues_taken : (worker from : ℕ) → map held_in (deques_taken pool worker from) ≡ set queues from (drop 1 (get_or queues from []))
  queues_taken worker from =
      map-set held_in pool.deques from (front_taken worker (deque_of pool from) (deque_of pool from).held)
      ∙ ap (λ (x : List (List ℕ)). set x from (front_taken worker (deque_of pool from) (deque_of pool from).held).held) (here w l es spots queues stop pool view kept).queues_are
      ∙ ap (set queues from) (rest_held worker (deque_of pool from) (deque_of pool from).held refl ∙ ap (drop 1) (queue_at w l es spots queues stop pool view kept from))

  -- the fields after an accepted pop are those of the pool after it
  pub kept_pop : (worker : ℕ) (spots' : List Spot) (queues' : List (List ℕ)) → refusal pool (Pop worker) ≡ None → es' ≡ es ++ Pop worker ∷ []
      → spots' ≡ first_held spots worker (get_or queues worker []) → queues' ≡ set queues worker (drop 1 (get_or queues worker []))
      → IsPoolAfter (run w l es') w l es' spots' queues' stop
  kept_pop worker spots' queues' ok more s q =
      kept_more (Pop worker) spots' queues' stop ok more (spots_taken worker worker ∙ sym s) (queues_taken worker worker ∙ sym q) (here w l es spots queues stop pool view kept).stop_is

  -- the fields after an accepted steal are those of the pool after it
  pub kept_steal : (worker from : ℕ) (spots' : List Spot) (queues' : List (List ℕ)) → refusal pool (Steal worker from) ≡ None → es' ≡ es ++ Steal worker from ∷ []
      → spots' ≡ first_held spots worker (get_or queues from []) → queues' ≡ set queues from (drop 1 (get_or queues from []))
      → IsPoolAfter (run w l es') w l es' spots' queues' stop
  kept_steal worker from spots' queues' ok more s q =
      kept_more (Steal worker from) spots' queues' stop ok more (spots_taken worker from ∙ sym s) (queues_taken worker from ∙ sym q) (here w l es spots queues stop pool view kept).stop_is

  -- the fields after an accepted claim are those of the pool after it
  pub kept_claim : (worker t : ℕ) → refusal pool (Claim worker t) ≡ None → es' ≡ es ++ Claim worker t ∷ [] → IsPoolAfter (run w l es') w l es' (set spots t (Claimed worker)) queues stop
  kept_claim worker t ok more =
      kept_more (Claim worker t) (set spots t (Claimed worker)) queues stop ok more (ap (λ (s : List Spot). set s t (Claimed worker)) (here w l es spots queues stop pool view kept).spots_are) (here w l es spots queues stop pool view kept).queues_are (here w l es spots queues stop pool view kept).stop_is

  -- the fields after an accepted filing are those of the pool after it
  pub kept_file : (worker t c : ℕ) (spots' : List Spot) → refusal pool (File worker t c) ≡ None → es' ≡ es ++ File worker t c ∷ []
      → spots' ≡ spots ++ replicate c (Issued worker) → IsPoolAfter (run w l es') w l es' (set spots' t Filed) queues stop
  kept_file worker t c spots' ok more s =
      let within = file_within w l es spots queues stop pool view kept worker t c ok in
      kept_more (File worker t c) (set spots' t Filed) queues stop ok more
      (ap (λ (s : List Spot). set s t Filed ++ replicate c (Issued worker)) (here w l es spots queues stop pool view kept).spots_are
      ∙ sym (set-append_left spots (replicate c (Issued worker)) t Filed within.0) ∙ ap (λ (x : List Spot). set x t Filed) (sym s))
      (here w l es spots queues stop pool view kept).queues_are (here w l es spots queues stop pool view kept).stop_is

  -- the fields after a stop are those of the pool after it
  pub kept_stop : (cause : StopCause) (stop' : Option StopCause) → es' ≡ es ++ Stop cause ∷ [] → stop' ≡ option_or stop (Some cause) → IsPoolAfter (run w l es') w l es' spots queues stop'
  kept_stop cause stop' more s =
      kept_more (Stop cause) spots queues stop' refl more (here w l es spots queues stop pool view kept).spots_are (here w l es spots queues stop pool view kept).queues_are (ap (λ (o : Option StopCause). option_or o (Some cause)) (here w l es spots queues stop pool view kept).stop_is ∙ sym s)
