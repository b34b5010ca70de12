-- What octets make of what is held, and what is ahead of it.
use Rattle.std.proofs.Common.{◌≡◌, ℕ, Bool, true, false, List, [], ◌∷◌, ◌++◌, refl, ap, ◌∙◌, arith}
use Rattle.std.specs.Prelude.{nat_eq, if◌then◌else◌, Some, None}
use Rattle.std.proofs.lemmas.List.{append-nil}
use Rattle.master_lex.specs.declared.entry.Entry.{Entry}
use Rattle.master_lex.specs.declared.fault.LexKind.TheVariants.{OpenParen, OpenQuote}
use Rattle.master_lex.specs.declared.position.Mode.{Mode}
use Rattle.master_lex.specs.declared.position.Mode.TheVariants.{Start, Between, Comment, InToken, Faulty}
use Rattle.master_lex.specs.declared.position.Escape.TheVariants.{Outside, Begun, One, Two}
use Rattle.master_lex.specs.Pieces.{Broken}
use Rattle.master_lex.specs.Contents.{Contents, entry_at, fails, behind, contents_from}
use Rattle.master_lex.specs.States.{LexState, token_ended, passed, run, Fits, IsTidy, entry_so_far, ahead_by, ahead, fault_at_end, last_fault, whole_by, made, without_fault, last_entry}
use Rattle.master_lex.proofs.UndoLemmas.{moves}
use Rattle.master_lex.proofs.Steps.{ended_ahead, bad_ahead, step}

-- two texts, one behind the other, make of what is held what the second makes of what the first makes
pub run-append : (s : LexState) (xs ys : List ℕ) → run s (xs ++ ys) ≡ run (run s xs) ys
run-append s [] ys = refl
run-append s (x ∷ xs) ys = run-append (passed s x) xs ys

-- what is ahead is the same behind octets that were passed
pub run_ahead : (s : LexState) (octets more : List ℕ) → IsTidy s → ahead s (octets ++ more) ≡ ahead (run s octets) more
run_ahead s [] more tidy = refl
run_ahead s (c ∷ cs) more tidy = step s c (cs ++ more) tidy ∙ run_ahead (passed s c) cs more (moves s c tidy).tidy

-- what is held where the text ends, with this under way
abbrev ended_by : Mode → LexState → Contents
ended_by m s = record { whole = s.ready; last = without_fault (fault_at_end m s.position) (made (whole_by m s)); fault = fault_at_end m s.position }

no_more : (ready last : List Entry) (fault : _) → ◌≡◌ {A = Contents} (record { whole = ready ++ []; last = last; fault = fault }) (record { whole = ready; last = last; fault = fault })
no_more ready last fault = ap (λ (w : List Entry). record { whole = w; last = last; fault = fault }) (append-nil ready)

end_between : (s : LexState) → behind s.ready (contents_from (entry_so_far s) []) ≡ ended_by Between s
end_between s = by (nat_eq s.position.depth 0) where
  by : (outside : Bool) → behind s.ready (if outside then record { whole = []; last = entry_at (entry_so_far s); fault = None } else fails s.position.opened OpenParen)
      ≡ record {
        whole = s.ready;
        last = without_fault (if outside then None else Some (record { line = s.position.opened; kind = OpenParen })) (made s);
        fault = (if outside then None else Some (record { line = s.position.opened; kind = OpenParen }));
      }
  by true = no_more s.ready _ _
  by false = no_more s.ready _ _

end_by : (m : Mode) (s : LexState) → Fits m s → behind s.ready (ahead_by m s []) ≡ ended_by m s
end_by Start s (none, blank) = rw (← blank) (end_between s)
end_by Between s fits = end_between s
end_by Comment s fits = end_between s
end_by (InToken false Outside) s (go, room) = ap (behind s.ready) (ended_ahead s false [] (omega (arith, room))) ∙ end_between (token_ended s false)
end_by (InToken true Outside) s (go, room) = ap (behind s.ready) (ended_ahead s true (Broken OpenQuote ∷ []) (omega (arith, room))) ∙ no_more s.ready _ _
end_by (InToken quoted Begun) s (go, room) = ap (behind s.ready) (bad_ahead (entry_so_far s) quoted s.raw (omega (arith, room))) ∙ no_more s.ready _ _
end_by (InToken quoted (One first)) s (go, room) = ap (behind s.ready) (bad_ahead (entry_so_far s) quoted s.raw (omega (arith, room))) ∙ no_more s.ready _ _
end_by (InToken quoted (Two first second)) s (go, room) = ap (behind s.ready) (bad_ahead (entry_so_far s) quoted s.raw (omega (arith, room))) ∙ no_more s.ready _ _
end_by (Faulty fault) s fits = no_more s.ready _ _

-- what is ahead of what is held, if the text ends here
pub end_ahead : (s : LexState) → IsTidy s → ahead s [] ≡ record { whole = s.ready; last = last_entry s; fault = last_fault s.position }
end_ahead s tidy = end_by s.position.mode s tidy
