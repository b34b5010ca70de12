-- What each worker took from a deque is together what was taken from it.
use Rattle.std.proofs.Common.{◌≡◌, ℕ, zero, suc, ◌+◌, ◌<◌, ◌≤◌, ◌==◌, eqb, Bool, true, false, cond, List, [], ◌∷◌, map, filter, refl, sym, ◌∙◌, arith, ⊎_elim}
use Rattle.std.specs.List.{AllByRecursion, range_with_len, sum_by}
use Rattle.std.proofs.lemmas.Bool.{cases_eq, ne_eqb, eq-eqb}
use Rattle.std.proofs.lemmas.List.Sums.{sum_by-cons}
use Rattle.std.proofs.lemmas.List.Folds.{fold-map}
use Rattle.pool_core.specs.Deques.{times}
use Rattle.pool_core.proofs.Lists.{count_by-cons}

-- the tickets of these pairs that one worker took
abbrev of_one : List (ℕ × ℕ) → ℕ → List ℕ
of_one taken w = map (λ (t : ℕ × ℕ). t.1) (filter (λ (t : ℕ × ℕ). t.0 == w) taken)

sum_zero : (f : ℕ → ℕ) (xs : List ℕ) → ((x : ℕ) → f x ≡ 0) → sum_by f xs ≡ 0
sum_zero f [] h = refl
sum_zero f (x ∷ xs) h = sum_by-cons f x xs ∙ rw (h x, sum_zero f xs h) (omega arith)

sum_add : (f g k : ℕ → ℕ) (xs : List ℕ) → ((x : ℕ) → f x ≡ g x + k x) → sum_by f xs ≡ sum_by g xs + sum_by k xs
sum_add f g k [] h = refl
sum_add f g k (x ∷ xs) h =
    let rest = sum_add f g k xs h in
    sum_by-cons f x xs ∙ rw (h x) (omega (arith, rest, sum_by-cons g x xs, sum_by-cons k x xs))

-- a worker before the range counts for nothing
not_there : (a n x c : ℕ) → x < a → sum_by (λ w. cond (x == w) c 0) (range_with_len a n) ≡ 0
not_there a zero x c h = refl
not_there a (suc n) x c h =
    let e : eqb x a ≡ false = ne_eqb x a (λ q. absurd (omega arith)) in
    sum_by-cons (λ w. cond (x == w) c 0) a (range_with_len (a + 1) n) ∙ rw e (omega (arith, not_there (a + 1) n x c (omega arith)))

-- a worker of the range counts once
there_once : (a n x c : ℕ) → a ≤ x → x < a + n → sum_by (λ w. cond (x == w) c 0) (range_with_len a n) ≡ c
there_once a zero x c low high = absurd (omega arith)
there_once a (suc n) x c low high =
    sum_by-cons (λ w. cond (x == w) c 0) a (range_with_len (a + 1) n) ∙ ⊎_elim
    (λ (e : x ≡ a). rw (eq-eqb x a e) (omega (arith, not_there (a + 1) n x c (omega arith))))
    (λ (ne : x ≡ a → ⊥). rw (ne_eqb x a ne) (omega (arith, there_once (a + 1) n x c (omega (arith, ne)) (omega arith))))
    (cases_eq x a)

of_one-cons : (t : ℕ) (p : ℕ × ℕ) (rest : List (ℕ × ℕ)) (w : ℕ) → times t (of_one (p ∷ rest) w) ≡ cond (p.0 == w) (cond (p.1 == t) 1 0) 0 + times t (of_one rest w)
of_one-cons t p rest w =
    let P : Bool → Type 0 = λ b. times t (map (λ (t : ℕ × ℕ). t.1) (cond b (p ∷ filter (λ (t : ℕ × ℕ). t.0 == w) rest) (filter (λ (t : ℕ × ℕ). t.0 == w) rest))) ≡ cond b (cond (p.1 == t) 1 0) 0 + times t (of_one rest w) in
    elim (p.0 == w) as P [ true ↦ count_by-cons (λ x. x == t) p.1 (of_one rest w) | false ↦ omega arith ]

each_range : (t n : ℕ) (taken : List (ℕ × ℕ)) → AllByRecursion (λ (p : ℕ × ℕ). p.0 < n) taken → sum_by (λ w. times t (of_one taken w)) (range_with_len 0 n) ≡ times t (map (λ (p : ℕ × ℕ). p.1) taken)
each_range t n [] h = sum_zero (λ w. 0) (range_with_len 0 n) (λ _. refl)
each_range t n (p ∷ rest) h =
    sum_add (λ w. times t (of_one (p ∷ rest) w)) (λ w. cond (p.0 == w) (cond (p.1 == t) 1 0) 0) (λ w. times t (of_one rest w)) (range_with_len 0 n) (of_one-cons t p rest)
    ∙ rw (there_once 0 n p.0 (cond (p.1 == t) 1 0) (omega arith) (omega (arith, h.0)), each_range t n rest h.1) (sym (count_by-cons (λ x. x == t) p.1 (map (λ (p : ℕ × ℕ). p.1) rest)))

-- how often a ticket stands in the lists of all workers
pub times_of_each : (t n : ℕ) (taken : List (ℕ × ℕ)) → AllByRecursion (λ (p : ℕ × ℕ). p.0 < n) taken → sum_by (times t) (map (of_one taken) (range_with_len 0 n)) ≡ times t (map (λ (p : ℕ × ℕ). p.1) taken)
times_of_each t n taken h = fold-map (λ a x. a + times t x) (of_one taken) 0 (range_with_len 0 n) ∙ each_range t n taken h
