-- Each kind of step keeps the rule of the deque.
use Rattle.std.proofs.Common.{◌≡◌, ℕ, zero, suc, ◌+◌, ◌<◌, ◌==◌, List, [], ◌∷◌, ◌++◌, cond, length, set, sym, refl, ap, ◌∙◌, arith}
use Rattle.std.specs.Prelude.{sum_by, slice_index_or}
use Rattle.std.proofs.lemmas.List.Sums.{sum_by-append, sum_by-cons}
use mathlib.Core.Option.{some, some-ne-none, some-injective}
use lib.ListN.{get_elem?}
use Rattle.crossbeam_deque.specs.Tasks.{Pushes, Takes, Finds, FindsFew, Learns, Admits, Forks, Merges}
use Rattle.steal_pool.specs.declared.rule.SeatView.{SeatView}
use Rattle.pool_core.specs.Deques.{times}
use Rattle.steal_pool.specs.Rule.{seat_view, new_seat, pushed_by_owner, taken_by_seats, KeepsBalance, WasEmpty, IsHeldBeside}

times-append : (t : ℕ) (xs ys : List ℕ) → times t (xs ++ ys) ≡ times t xs + times t ys
times-append t xs ys = sum_by-append (λ x. cond (x == t) 1 0) xs ys

-- how often all seats took the ticket, after a change of one seat's view
taken_set : (t : ℕ) (views : List SeatView) (port : ℕ) (v w : SeatView) → get_elem? views port ≡ some v → sum_by (times t) (taken_by_seats (set views port w)) + times t v.taken ≡ sum_by (times t) (taken_by_seats views) + times t w.taken
taken_set t [] port v w e = absurd (some-ne-none v (sym e))
taken_set t (x ∷ xs) zero v w e =
    let same : times t x.taken ≡ times t v.taken = ap (λ (u : SeatView). times t u.taken) (some-injective x v e) in
    omega (arith, same, sum_by-cons (times t) w.taken (taken_by_seats xs), sum_by-cons (times t) x.taken (taken_by_seats xs))
taken_set t (x ∷ xs) (suc port) v w e =
    let rest = taken_set t xs port v w e in
    omega (arith, rest, sum_by-cons (times t) x.taken (taken_by_seats (set xs port w)), sum_by-cons (times t) x.taken (taken_by_seats xs))

taken_more : (t : ℕ) (views : List SeatView) → sum_by (times t) (taken_by_seats (views ++ new_seat ∷ [])) ≡ sum_by (times t) (taken_by_seats views)
taken_more t [] = refl
taken_more t (x ∷ xs) =
    let rest = taken_more t xs in
    omega (arith, rest, sum_by-cons (times t) x.taken (taken_by_seats (xs ++ new_seat ∷ [])), sum_by-cons (times t) x.taken (taken_by_seats xs))

-- what the owner pushed stays where a seat's `pushed` stays
pushed_set : (views : List SeatView) (port : ℕ) (v w : SeatView) → get_elem? views port ≡ some v → w.pushed ≡ v.pushed → pushed_by_owner (set views port w) ≡ pushed_by_owner views
pushed_set [] port v w e same = absurd (some-ne-none v (sym e))
pushed_set (x ∷ xs) zero v w e same = same ∙ ap (λ (u : SeatView). u.pushed) (sym (some-injective x v e))
pushed_set (x ∷ xs) (suc port) v w e same = refl

pushed_first : (views : List SeatView) (port : ℕ) (v w : SeatView) → port ≡ 0 → get_elem? views port ≡ some v → (pushed_by_owner (set views port w) ≡ w.pushed) × (pushed_by_owner views ≡ v.pushed)
pushed_first [] port v w first e = absurd (some-ne-none v (sym e))
pushed_first (x ∷ xs) zero v w first e = (refl, ap (λ (u : SeatView). u.pushed) (some-injective x v e))
pushed_first (x ∷ xs) (suc port) v w first e = absurd (omega arith)

pushed_more : (views : List SeatView) (port : ℕ) (v : SeatView) → get_elem? views port ≡ some v → pushed_by_owner (views ++ new_seat ∷ []) ≡ pushed_by_owner views
pushed_more [] port v e = refl
pushed_more (x ∷ xs) port v e = refl

stands : (views : List SeatView) (port : ℕ) (v : SeatView) → get_elem? views port ≡ some v → (k : ℕ) × (k < length views) × (slice_index_or views k v ≡ v)
stands [] port v e = absurd (some-ne-none v (sym e))
stands (x ∷ xs) zero v e = (0, omega arith, some-injective x v e)
stands (x ∷ xs) (suc port) v e = let rest = stands xs port v e in (suc rest.0, omega (arith, rest.1), rest.2)

-- a deque that holds nothing, with a new seat alone, is balanced
pub begins : KeepsBalance [] (new_seat ∷ [])
begins t = refl

-- the owner's pushes keep the balance, and stand behind what it pushed before
pub pushes : (port : ℕ) (v : SeatView) (xs : List ℕ) → port ≡ 0 → Pushes KeepsBalance port v xs (λ w. w ≡ seat_view (v.pushed ++ xs) v.taken)
pushes port v xs first held views h at =
    let w : SeatView = seat_view (v.pushed ++ xs) v.taken in
    let p = pushed_first views port v w first at in (
      w,
      (λ t.
          let before : times t v.pushed ≡ times t held + sum_by (times t) (taken_by_seats views) = ap (times t) (sym p.1) ∙ h t in
          ap (times t) p.0 ∙ omega (arith, before, taken_set t views port v w at, times-append t v.pushed xs, times-append t held xs)),
      refl,
    )

-- taking the first ticket keeps the balance, and it stands behind what the seat took before
pub takes : (port : ℕ) (v : SeatView) → Takes KeepsBalance port v 1 (λ xs w. w ≡ seat_view v.pushed (v.taken ++ xs))
takes port v xs held views some_ticket one h at =
    let w : SeatView = seat_view v.pushed (v.taken ++ xs) in (
      w,
      (λ t.
          let before = h t in
          ap (times t) (pushed_set views port v w at refl) ∙ omega (arith, before, taken_set t views port v w at, times-append t v.taken xs, times-append t xs held)),
      refl,
    )

-- a seat that finds nothing was at a deque that held nothing
pub finds : (port : ℕ) (v : SeatView) → Finds KeepsBalance port v (WasEmpty v)
finds port v views h at = (views, h, stands views port v at)

-- a seat that finds no more than none was at a deque that held nothing
pub finds_few : (most port : ℕ) (v : SeatView) → most ≡ 0 → FindsFew KeepsBalance most port v (WasEmpty v)
finds_few most port v none [] views few h at = (views, h, stands views port v at)
finds_few most port v none (x ∷ xs) views few h at = absurd (omega (arith, few, none))

-- what a seat learns of the length is what the deque holds beside it
pub learns : (port : ℕ) (v : SeatView) → Learns KeepsBalance port v (IsHeldBeside v)
learns port v held views h at = (views, h, stands views port v at)

-- a new seat keeps the balance
pub admits : Admits KeepsBalance new_seat
admits held [] h = λ t. h t
admits held (x ∷ xs) h = λ t. h t ∙ ap (λ n. times t held + n) (sym (taken_more t (x ∷ xs)))

-- what a seat took that is joined stands behind what the owner's seat took, and the balance is kept
pub merges : (port : ℕ) (v : SeatView) (other : ℕ) (u : SeatView) → port ≡ 0 → Merges KeepsBalance port v other u (seat_view v.pushed (v.taken ++ u.taken)) new_seat
merges port v other u first held views h at two at' = λ t.
    let both : SeatView = seat_view v.pushed (v.taken ++ u.taken) in
    let vs = set views port both in
    let before = h t in
    let away : pushed_by_owner (set vs other new_seat) ≡ pushed_by_owner vs = later vs other (λ zero_is. two (zero_is ∙ sym first)) in
    ap (times t) (away ∙ pushed_set views port v both at refl)
    ∙ omega (arith, before, taken_set t views port v both at, taken_set t vs other u new_seat at', times-append t v.taken u.taken)
  where
    later : (vs : List SeatView) (other : ℕ) → (other ≡ 0 → ⊥) → pushed_by_owner (set vs other new_seat) ≡ pushed_by_owner vs
    later [] other ne = refl
    later (x ∷ xs) zero ne = absurd (ne refl)
    later (x ∷ xs) (suc other) ne = refl

set_same : (views : List SeatView) (port : ℕ) (v : SeatView) → get_elem? views port ≡ some v → set views port v ≡ views
set_same [] port v e = refl
set_same (x ∷ xs) zero v e = ap (λ u. u ∷ xs) (sym (some-injective x v e))
set_same (x ∷ xs) (suc port) v e = ap (λ l. x ∷ l) (set_same xs port v e)

-- a seat that is split off is a new one, and keeps the balance
pub forks : (port : ℕ) (v : SeatView) → Forks KeepsBalance port v v new_seat
forks port v held views h at = λ t.
    let same = set_same views port v at in
    ap (λ (l : List SeatView). times t (pushed_by_owner (l ++ new_seat ∷ []))) same ∙ ap (times t) (pushed_more views port v at) ∙ h t
    ∙ ap (λ n. times t held + n) (sym (taken_more t views) ∙ ap (λ (l : List SeatView). sum_by (times t) (taken_by_seats (l ++ new_seat ∷ []))) (sym same))
