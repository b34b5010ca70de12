-- How far the octets of a piece were passed.
use Rattle.std.proofs.Common.{◌≡◌, ℕ, ◌+◌, ◌-◌, ◌<◌, List, [], ◌∷◌, length, get_or, take, drop, subst, sym, ap, ◌∙◌, add-one, arith}
use Rattle.std.proofs.lemmas.List.{length-take-le, length-drop, take_all}
use Rattle.std.proofs.Math.Seq.{take-add, take-suc}
use Rattle.master_lex.specs.States.{LexState, passed, run, IsTidy}
use Rattle.master_lex.specs.Undo.{Grew}
use Rattle.master_lex.specs.Plain.{PassedFirst}
use Rattle.master_lex.proofs.UndoLemmas.{MovesFar, moves_far, grew_none}
use Rattle.master_lex.proofs.Running.{run-append}

-- the octets in front with one more are passed over once it is
pub octet_more : (s s' s'' : LexState) (octets : List ℕ) (n octet : ℕ) → n < length octets → octet ≡ get_or octets n 0 → PassedFirst s s' octets n → s'' ≡ passed s' octet
    → PassedFirst s s'' octets (n + 1)
octet_more s s' s'' octets n octet h is r e = record {
  within = omega arith;
  passed = e ∙ ap (passed s') is ∙ ap (λ x. passed x (get_or octets n 0)) r.passed
      ∙ sym (rw (add-one, take-suc octets n 0 h) (run-append s (take n octets) (get_or octets n 0 ∷ [])));
}

-- octets that are passed over in front, and then more, are passed over together
pub first_more : (s s' s'' : LexState) (octets : List ℕ) (n m : ℕ) → PassedFirst s s' octets n → PassedFirst s' s'' (take (length octets - n) (drop n octets)) m → PassedFirst s s'' octets (n + m)
first_more s s' s'' octets n m r p =
    let rest = take_all (length octets - n) (drop n octets) (omega (arith, length-drop n octets)) in
    let more = subst (λ (xs : List ℕ). PassedFirst s' s'' xs m) rest p in
    record {
      within = omega (arith, r.within, more.within, length-drop n octets);
      passed = more.passed ∙ ap (λ x. run x (take m (drop n octets))) r.passed ∙ sym (rw (take-add n m octets) (run-append s (take n octets) (take m (drop n octets))));
    }

-- the octets in front were passed, and what that made of what is held
pub record Reached (s s' : LexState) (octets : List ℕ) (n : ℕ) : Type 0 where
  pub first : PassedFirst s s' octets n
  pub far : MovesFar n s s'
  pub grew : Grew s s'

-- where the octets in front were passed over, what is held grew, and moved on by as many octets
pub reached : (s s' : LexState) (octets : List ℕ) (n : ℕ) → IsTidy s → PassedFirst s s' octets n → Reached s s' octets n
reached s s' octets n tidy first =
    let moved = moves_far s (take n octets) tidy in
    let far = subst (λ x. MovesFar n s x) (sym first.passed) (subst (λ (k : ℕ). MovesFar k s (run s (take n octets))) (length-take-le n octets first.within) moved) in
    record { first = first; far = far; grew = far.grew s (grew_none s) }

-- octets that are passed over behind others are passed over together with them
pub reached_more : (s s' s'' : LexState) (octets : List ℕ) (n m : ℕ) → IsTidy s → PassedFirst s s' octets n → PassedFirst s' s'' (take (length octets - n) (drop n octets)) m
    → Reached s s'' octets (n + m)
reached_more s s' s'' octets n m tidy first more = reached s s'' octets (n + m) tidy (first_more s s' s'' octets n m first more)
