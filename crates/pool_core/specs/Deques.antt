-- A deque of tickets: what was pushed on it, what was taken from it, and what it holds.
use Rattle.std.specs.Prelude.{◌≡◌, ℕ, ◌+◌, ◌==◌, List, [], ◌∷◌, ◌++◌, map, filter, count_by, sum_by}
use Rattle.std.specs.List.{range_with_len}

-- what was pushed, what was taken with the worker that took it, and what is held, each the first one first
pub record Deque : Type 0 where
  pub pushed : List ℕ
  pub taken : List (ℕ × ℕ)
  pub held : List ℕ

-- a deque on which nothing was pushed
abbrev pub new_deque : Deque
new_deque = record { pushed = []; taken = []; held = [] }

-- the deque after a ticket was pushed on its back
abbrev pub pushed_back : Deque → ℕ → Deque
pushed_back deque ticket =
    record { pushed = deque.pushed ++ ticket ∷ []; taken = deque.taken; held = deque.held ++ ticket ∷ [] }

-- the deque after the worker took the first of these tickets, which it holds; with none it stays
abbrev pub front_taken : ℕ → Deque → List ℕ → Deque
front_taken worker deque [] = deque
front_taken worker deque (ticket ∷ rest) =
    record { pushed = deque.pushed; taken = deque.taken ++ (worker, ticket) ∷ []; held = rest }

-- the tickets that were taken from the deque, by any worker
abbrev pub taken_from : Deque → List ℕ
taken_from deque = map (λ (t : ℕ × ℕ). t.1) deque.taken

-- the tickets that one worker took from the deque
abbrev pub taken_by : Deque → ℕ → List ℕ
taken_by deque worker = map (λ (t : ℕ × ℕ). t.1) (filter (λ (t : ℕ × ℕ). t.0 == worker) deque.taken)

-- the tickets that each of the workers took from the deque
abbrev pub taken_by_each : Deque → ℕ → List (List ℕ)
taken_by_each deque workers = map (taken_by deque) (range_with_len 0 workers)

-- how often a ticket stands in a list
abbrev pub times : ℕ → List ℕ → ℕ
times ticket tickets = count_by (λ t. t == ticket) tickets

-- each ticket stands in `pushed` as often as in `held` and in all the lists `taken` together
abbrev pub Balanced : List ℕ → List (List ℕ) → List ℕ → Type 0
Balanced pushed taken held = (ticket : ℕ) → times ticket pushed ≡ times ticket held + sum_by (times ticket) taken

-- the second list begins with the first
abbrev pub IsPrefixOf : List ℕ → List ℕ → Type 0
IsPrefixOf front whole = (rest : List ℕ) × (front ++ rest ≡ whole)
