-- The last entry of a text.
use Rattle.std.proofs.Common.{◌≡◌, true, false, List, [], ◌∷◌, ◌++◌, refl, sym, None, eqb-true}
use Rattle.std.specs.Prelude.{nat_eq}
use Rattle.master_lex.specs.declared.entry.Entry.{Entry}
use Rattle.master_lex.specs.declared.entry.Token.{Token}
use Rattle.master_lex.specs.declared.taken.Taken.TheVariants as answers
use Rattle.master_lex.specs.declared.position.Position.{Position}
use Rattle.master_lex.specs.declared.position.Mode.{Mode}
use Rattle.master_lex.specs.declared.position.Mode.TheVariants.{Start, Between, Comment, InToken, Faulty}
use Rattle.master_lex.specs.declared.position.Escape.TheVariants.{Outside, Begun, One, Two}
use Rattle.master_lex.specs.Lists.{is_empty}
use Rattle.master_lex.specs.States.{LexState, start_of, entry_of, Fits, IsTidy, paren_fault, fault_at_end, last_fault, whole_by, whole}
use Rattle.master_lex.specs.Lexer.{LastTaken}

no_paren : (position : Position) → paren_fault position ≡ None → position.depth ≡ 0
no_paren position e = elim (nat_eq position.depth 0) as (λ b. (nat_eq position.depth 0 ≡ b) → position.depth ≡ 0) [ true ↦ λ h. eqb-true position.depth 0 h | false ↦ λ h. absurd (let k = rw h at e in cc) ] refl

nothing : (tokens : List Token) → is_empty tokens ≡ true → tokens ≡ []
nothing [] h = refl
nothing (t ∷ ts) h = absurd (cc)

not_nothing : (tokens : List Token) (t : Token) → is_empty (tokens ++ t ∷ []) ≡ true → ⊥
not_nothing [] t h = cc
not_nothing (x ∷ xs) t h = cc

-- the state in this mode
abbrev at : Mode → LexState → LexState
at mode s = record s { position = record s.position { mode = mode } }

-- what is left behind the last entry
abbrev after_last : LexState → LexState
after_last w = record { ready = w.ready; tokens = []; raw = w.raw; position = start_of w.position.line }

end_by : (m : Mode) (s : LexState) → Fits m s → fault_at_end m s.position ≡ None → is_empty (whole_by m (at m s)).tokens ≡ true → LastTaken (at m s) (whole_by m (at m s)) answers.End
end_by Start s tidy none empty =
    let t : s.tokens ≡ [] = nothing s.tokens empty in
    record { taken_is = rw (none, t) refl; ready = refl; nothing_left = rw (none, t) refl; fault = refl; tidy = tidy; line = refl; depth = no_paren s.position none }
end_by Between s tidy none empty =
    let t : s.tokens ≡ [] = nothing s.tokens empty in
    record { taken_is = rw (none, t) refl; ready = refl; nothing_left = rw (none, t) refl; fault = refl; tidy = tidy; line = refl; depth = no_paren s.position none }
end_by Comment s tidy none empty =
    let t : s.tokens ≡ [] = nothing s.tokens empty in
    record { taken_is = rw (none, t) refl; ready = refl; nothing_left = rw (none, t) refl; fault = refl; tidy = tidy; line = refl; depth = no_paren s.position none }
end_by (InToken q e) s tidy none empty = absurd (not_nothing s.tokens _ empty)
end_by (Faulty f) s tidy none empty = absurd cc

end_here : (s : LexState) → IsTidy s → last_fault s.position ≡ None → is_empty (whole s).tokens ≡ true → LastTaken s (whole s) answers.End
end_here s tidy none empty = end_by s.position.mode s tidy none empty

-- where a text ends without a fault and no token is left, there is no last entry to take
pub end_taken : (s w : LexState) → IsTidy s → last_fault s.position ≡ None → w ≡ whole s → is_empty w.tokens ≡ true → LastTaken s w answers.End
end_taken s w tidy none e empty = rw e (end_here s tidy none (rw e at empty))

entry_by : (m : Mode) (s : LexState) → Fits m s → fault_at_end m s.position ≡ None → is_empty (whole_by m (at m s)).tokens ≡ false
    → LastTaken (at m s) (after_last (whole_by m (at m s))) (answers.Entry (entry_of (whole_by m (at m s))))
entry_by Start s tidy none some = record { taken_is = rw (none, some) refl; ready = refl; nothing_left = refl; fault = sym none; tidy = (tidy.0, refl); line = refl; depth = refl }
entry_by Between s tidy none some = record { taken_is = rw (none, some) refl; ready = refl; nothing_left = refl; fault = sym none; tidy = (tidy, refl); line = refl; depth = refl }
entry_by Comment s tidy none some = record { taken_is = rw (none, some) refl; ready = refl; nothing_left = refl; fault = sym none; tidy = (tidy, refl); line = refl; depth = refl }
entry_by (InToken false Outside) s tidy none some = record { taken_is = rw (none, some) refl; ready = refl; nothing_left = refl; fault = sym none; tidy = (refl, refl); line = refl; depth = refl }
entry_by (InToken true Outside) s tidy none some = absurd cc
entry_by (InToken q Begun) s tidy none some = absurd cc
entry_by (InToken q (One a)) s tidy none some = absurd cc
entry_by (InToken q (Two a b)) s tidy none some = absurd cc
entry_by (Faulty f) s tidy none some = absurd cc

entry_here : (s : LexState) → IsTidy s → last_fault s.position ≡ None → is_empty (whole s).tokens ≡ false → LastTaken s (after_last (whole s)) (answers.Entry (entry_of (whole s)))
entry_here s tidy none some = entry_by s.position.mode s tidy none some

-- where a text ends without a fault and a token is left, the entry of the tokens is the last one, and nothing is left
-- behind it
pub entry_taken : (s w n : LexState) (entry : Entry) → IsTidy s → last_fault s.position ≡ None → w ≡ whole s → is_empty w.tokens ≡ false → n ≡ after_last w → entry ≡ entry_of w → LastTaken s n (answers.Entry entry)
entry_taken s w n entry tidy none e some to is = rw (to, is, e) (entry_here s tidy none (rw e at some))
