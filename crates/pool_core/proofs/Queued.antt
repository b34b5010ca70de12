-- The deques of a pool keep their part of the law at each kind of event.
use Rattle.std.proofs.Common.{◌≡◌, ℕ, suc, ◌<◌, ◌==◌, Bool, true, false, cond, List, [], ◌∷◌, ◌++◌, length, get_or, set, Option, Some, None, slice_get, refl, sym, ◌∙◌, ap, subst, arith, ⊎_elim, append_assoc}
use Rattle.std.specs.List.{AllByRecursion}
use Rattle.std.proofs.lemmas.Option.{slice_get_within}
use Rattle.std.proofs.lemmas.Bool.{cases_eq, ne_eqb, eq-eqb, eqb-true}
use Rattle.std.proofs.lemmas.List.{get_or-set_same, get_or-set_other, length-set, map_push}
use Rattle.pool_core.specs.declared.spot.Spot.{Spot}
use Rattle.pool_core.specs.declared.spot.Spot.TheVariants.{Issued, Waiting, Held, Claimed, Filed}
use Rattle.pool_core.specs.Deques.{Deque, new_deque, pushed_back, front_taken, taken_from, times}
use Rattle.pool_core.proofs.Lists.{slice_get-set_same, slice_get-set_other, stays_at_set, count_by_push, count_by-cons}

-- the ticket waits in the deque
abbrev pub waits_in : ℕ → Option Spot → Bool
waits_in deque (Some (Waiting d)) = d == deque
waits_in deque spot = false

-- the deque with this number
abbrev pub at : List Deque → ℕ → Deque
at deques d = get_or deques d new_deque

-- a deque for each worker; a ticket stands once in the deque in which it waits, and in no other; what was taken and what is
-- held is what was pushed; workers took it
pub record Queued (workers : ℕ) (spots : List Spot) (deques : List Deque) : Type 0 where
  pub each : length deques ≡ workers
  pub stands : (t d : ℕ) → times t (at deques d).held ≡ cond (waits_in d (slice_get spots t)) 1 0
  pub splits : (d : ℕ) → taken_from (at deques d) ++ (at deques d).held ≡ (at deques d).pushed
  pub takers : (d : ℕ) → AllByRecursion (λ (p : ℕ × ℕ). p.0 < workers) (at deques d).taken

-- if the test says that a spot waits in a deque, it does
pub waits_in_is : (d : ℕ) (s : Option Spot) → waits_in d s ≡ true → s ≡ Some (Waiting d)
waits_in_is d None h = absurd cc
waits_in_is d (Some (Issued w)) h = absurd cc
waits_in_is d (Some (Waiting e)) h = ap (λ x. Some (Waiting x)) (eqb-true e d h)
waits_in_is d (Some (Held w)) h = absurd cc
waits_in_is d (Some (Claimed w)) h = absurd cc
waits_in_is d (Some Filed) h = absurd cc

cond_suc : (n : ℕ) (b : Bool) → suc n ≡ cond b 1 0 → b ≡ true
cond_suc n true h = refl
cond_suc n false h = absurd (omega arith)

-- a ticket that stands in a deque by count waits in it
pub waits_from_times : (d n : ℕ) (s : Option Spot) → suc n ≡ cond (waits_in d s) 1 0 → s ≡ Some (Waiting d)
waits_from_times d n s h = waits_in_is d s (cond_suc n (waits_in d s) h)

-- deques stay right after events that touch no deque and move no ticket into or out of one
pub queued_keep : (workers : ℕ) (spots spots' : List Spot) (deques : List Deque) → ((d k : ℕ) → waits_in d (slice_get spots' k) ≡ waits_in d (slice_get spots k)) → Queued workers spots deques → Queued workers spots' deques
queued_keep workers spots spots' deques same q =
    record {
      each = q.each;
      stands = λ t d. q.stands t d ∙ ap (λ b. cond b 1 0) (sym (same d t));
      splits = q.splits;
      takers = q.takers;
    }

-- a fact of each deque stays where one is written that has it
each_after : (deques : List Deque) (P : Deque → Type 0) (i : ℕ) (new : Deque) → i < length deques → P new → ((d : ℕ) → P (at deques d)) → (d : ℕ) → P (at (set deques i new) d)
each_after deques P i new h p old d =
    ⊎_elim
    (λ (e : d ≡ i). subst P (sym (ap (at (set deques i new)) e ∙ get_or-set_same deques i new new_deque h)) p)
    (λ (ne : d ≡ i → ⊥). subst P (sym (get_or-set_other deques i d new new_deque ne)) (old d))
    (cases_eq d i)

all_push : (P : ℕ × ℕ → Type 0) (xs : List (ℕ × ℕ)) (y : ℕ × ℕ) → AllByRecursion P xs → P y → AllByRecursion P (xs ++ y ∷ [])
all_push P [] y h p = (p, tt)
all_push P (x ∷ xs) y h p = (h.0, all_push P xs y h.1 p)

-- how often each ticket stands in each deque, where deque i and the spot of ticket t are written
stands_after : (spots : List Spot) (deques : List Deque) (i t : ℕ) (new : Deque) (spot : Spot) → i < length deques → t < length spots
    → ((k d : ℕ) → times k (at deques d).held ≡ cond (waits_in d (slice_get spots k)) 1 0)
    → (times t new.held ≡ cond (waits_in i (Some spot)) 1 0)
    → ((k : ℕ) → (k ≡ t → ⊥) → times k new.held ≡ times k (at deques i).held)
    → ((d : ℕ) → (d ≡ i → ⊥) → waits_in d (slice_get spots t) ≡ waits_in d (Some spot))
    → (k d : ℕ) → times k (at (set deques i new) d).held ≡ cond (waits_in d (slice_get (set spots t spot) k)) 1 0
stands_after spots deques i t new spot hi ht old here others elsewhere k d =
    ⊎_elim
    (λ (e : d ≡ i).
    let deque : at (set deques i new) d ≡ new = ap (at (set deques i new)) e ∙ get_or-set_same deques i new new_deque hi in
    ⊎_elim
    (λ (f : k ≡ t).
    ap (λ q. times k q.held) deque ∙ ap (λ x. times x new.held) f ∙ here
    ∙ ap (λ s. cond (waits_in i s) 1 0) (sym (ap (slice_get (set spots t spot)) f ∙ slice_get-set_same spots t spot ht))
    ∙ ap (λ x. cond (waits_in x (slice_get (set spots t spot) k)) 1 0) (sym e))
    (λ (ne : k ≡ t → ⊥).
    ap (λ q. times k q.held) deque ∙ others k ne ∙ ap (λ x. times k (at deques x).held) (sym e) ∙ old k d
    ∙ ap (λ s. cond (waits_in d s) 1 0) (sym (slice_get-set_other spots t k spot ne)))
    (cases_eq k t))
    (λ (ne : d ≡ i → ⊥).
    ap (λ q. times k q.held) (get_or-set_other deques i d new new_deque ne) ∙ old k d
    ∙ ap (λ b. cond b 1 0) (sym (stays_at_set (waits_in d) spots t spot ht (elsewhere d ne) k)))
    (cases_eq d i)

-- a ticket that waits nowhere is pushed on the deque of w
pub queued_push : (workers : ℕ) (spots : List Spot) (deques : List Deque) (w t : ℕ) → Queued workers spots deques → w < workers → t < length spots
    → ((d : ℕ) → waits_in d (slice_get spots t) ≡ false)
    → Queued workers (set spots t (Waiting w)) (set deques w (pushed_back (at deques w) t))
queued_push workers spots deques w t q hw ht nowhere =
    let e = q.each in
    let hw' : w < length deques = omega arith in
    let old = at deques w in
    record {
      each = length-set deques w (pushed_back old t) ∙ q.each;
      stands = stands_after spots deques w t (pushed_back old t) (Waiting w) hw' ht q.stands
          (count_by_push (λ x. x == t) old.held t ∙ rw (q.stands t w, nowhere w, eq-eqb t t refl, eq-eqb w w refl) refl)
          (λ k ne. count_by_push (λ x. x == k) old.held t ∙ rw (ne_eqb t k (λ f. ne (sym f))) (omega arith))
          (λ d ne. nowhere d ∙ sym (ne_eqb w d (λ f. ne (sym f))));
      splits = each_after deques (λ d. taken_from d ++ d.held ≡ d.pushed) w (pushed_back old t) hw'
          (sym (append_assoc (taken_from old) old.held (t ∷ [])) ∙ ap (λ x. x ++ t ∷ []) (q.splits w)) q.splits;
      takers = each_after deques (λ d. AllByRecursion (λ (p : ℕ × ℕ). p.0 < workers) d.taken) w (pushed_back old t) hw' (q.takers w) q.takers;
    }

-- the first ticket of a deque waits in it
pub first_waits : (workers : ℕ) (spots : List Spot) (deques : List Deque) (d t : ℕ) (rest : List ℕ) → Queued workers spots deques → (at deques d).held ≡ t ∷ rest → (slice_get spots t ≡ Some (Waiting d)) × (times t rest ≡ 0)
first_waits workers spots deques d t rest q h =
    let n : times t (t ∷ rest) ≡ suc (times t rest) = count_by-cons (λ x. x == t) t rest ∙ rw (eq-eqb t t refl) (omega arith) in
    let m : suc (times t rest) ≡ cond (waits_in d (slice_get spots t)) 1 0 = sym n ∙ ap (times t) (sym h) ∙ q.stands t d in
    let s : slice_get spots t ≡ Some (Waiting d) = waits_from_times d (times t rest) (slice_get spots t) m in
    let one : suc (times t rest) ≡ 1 = m ∙ rw (s, eq-eqb d d refl) refl in
    (s, omega arith)

-- w takes the first ticket of deque i
pub queued_take : (workers : ℕ) (spots : List Spot) (deques : List Deque) (w i t : ℕ) (rest : List ℕ) → Queued workers spots deques → w < workers → i < workers
    → (at deques i).held ≡ t ∷ rest
    → Queued workers (set spots t (Held w)) (set deques i (front_taken w (at deques i) (t ∷ rest)))
queued_take workers spots deques w i t rest q hw hi first =
    let e = q.each in
    let hi' : i < length deques = omega arith in
    let old = at deques i in
    let new = front_taken w old (t ∷ rest) in
    let waits = first_waits workers spots deques i t rest q first in
    let ht : t < length spots = slice_get_within spots t (Waiting i) waits.0 in
    record {
      each = length-set deques i new ∙ q.each;
      stands = stands_after spots deques i t new (Held w) hi' ht q.stands
          waits.1
          (λ k ne. sym (ap (times k) first ∙ count_by-cons (λ x. x == k) t rest ∙ rw (ne_eqb t k (λ f. ne (sym f))) (omega arith)))
          (λ d ne. rw waits.0 (ne_eqb i d (λ f. ne (sym f))));
      splits = each_after deques (λ d. taken_from d ++ d.held ≡ d.pushed) i new hi'
          (ap (λ x. x ++ rest) (map_push (λ (p : ℕ × ℕ). p.1) old.taken (w, t)) ∙ append_assoc (taken_from old) (t ∷ []) rest ∙ ap (λ x. taken_from old ++ x) (sym first) ∙ q.splits i) q.splits;
      takers = each_after deques (λ d. AllByRecursion (λ (p : ℕ × ℕ). p.0 < workers) d.taken) i new hi' (all_push (λ (p : ℕ × ℕ). p.0 < workers) old.taken (w, t) (q.takers i) hw) q.takers;
    }
