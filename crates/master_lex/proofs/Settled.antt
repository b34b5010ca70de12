-- A fault is held as soon as no later octet can change it.
use Rattle.std.proofs.Common.{◌≡◌, ℕ, suc, zero, ◌+◌, ◌-◌, ◌<◌, ◌≤◌, Bool, true, false, List, [], ◌∷◌, ◌++◌, length, refl, sym, ap, ◌∙◌, arith, inl, inr, Option, Some, None}
use Rattle.std.specs.Prelude.{nat_eq}
use Rattle.std.proofs.lemmas.Bool.{cases_lt, le-ltb}
use Rattle.std.proofs.lemmas.Bool.Decides.{nat_tests}
use Rattle.std.proofs.lemmas.List.{append-nil}
use Rattle.master_lex.specs.declared.fault.LexFault.{LexFault}
use Rattle.master_lex.specs.declared.fault.LexKind.{LexKind}
use Rattle.master_lex.specs.declared.fault.LexKind.TheVariants.{OpenParen, BadEscape, TokenTooLong}
use Rattle.master_lex.specs.declared.position.Mode.{Mode}
use Rattle.master_lex.specs.declared.position.Mode.TheVariants.{Start, Between, Comment, InToken, Faulty}
use Rattle.master_lex.specs.declared.position.Escape.{Escape}
use Rattle.master_lex.specs.declared.position.Escape.TheVariants.{Outside, Begun, One, Two}
use Rattle.master_lex.specs.declared.scanner.TheConstants.{MOST}
use Rattle.master_lex.specs.Pieces.{Written, before, pieces, comment}
use Rattle.master_lex.specs.Contents.{EntrySoFar, fails, with_token, contents_from}
use Rattle.master_lex.specs.States.{LexState, CanGoOn, Fits, entry_so_far, rest_of_token, ahead_by}
use Rattle.master_lex.proofs.Ahead.{before_before, too_long}
use Rattle.master_lex.proofs.Steps.{bad_ahead}

-- so many parentheses are closed
abbrev closing : ℕ → List ℕ
closing zero = []
closing (suc depth) = 41 ∷ closing depth

less_one : (n : ℕ) → suc n - 1 ≡ n
less_one n = omega arith

closed : (place : EntrySoFar) (depth : ℕ) → place.depth ≡ depth → (contents_from place (pieces (closing depth))).fault ≡ None
closed place zero e = rw e refl
closed place (suc depth) e =
    let open' : nat_eq (suc depth) 0 ≡ false = grind (arith, nat_tests) in
    rw (e, open') (closed (record place { depth = suc depth - 1 }) depth (less_one depth))

-- a comment ends with its line
comment_ends : (place : EntrySoFar) → (contents_from place (comment (10 ∷ closing place.depth))).fault ≡ None
comment_ends place = by place.depth refl where
  by : (depth : ℕ) → place.depth ≡ depth → (contents_from place (comment (10 ∷ closing depth))).fault ≡ None
  by zero e = rw e refl
  by (suc depth) e = let open' : nat_eq (suc depth) 0 ≡ false = grind (arith, nat_tests) in rw (e, open') (closed (record place { line = place.line + 1; depth = suc depth - 1 }) depth (less_one depth))

-- a token ends, in quotes or not
abbrev ending : Bool → List ℕ → List ℕ
ending false text = 32 ∷ text
ending true text = 34 ∷ text

token_ends : (place : EntrySoFar) (quoted : Bool) (w : List ℕ) → length w ≤ MOST → (contents_from place (before quoted w (rest_of_token quoted Outside (ending quoted (closing place.depth))))).fault ≡ None
token_ends place false w h = rw (le-ltb 131072 (length w) h) (closed (with_token place false w) place.depth refl)
token_ends place true w h =
    ap (λ (v : List ℕ). (contents_from place (Written true v ∷ pieces (closing place.depth))).fault) (append-nil w)
    ∙ rw (le-ltb 131072 (length w) h) (closed (with_token place true w) place.depth refl)

-- the octets that make an escape whole, and the escape
abbrev missing : Escape → List ℕ
missing Outside = []
missing Begun = 97 ∷ []
missing (One first) = 48 ∷ 48 ∷ []
missing (Two first second) = 48 ∷ []

abbrev escape : Escape → List ℕ
escape Outside = []
escape Begun = 92 ∷ 97 ∷ []
escape (One first) = 92 ∷ first ∷ 48 ∷ 48 ∷ []
escape (Two first second) = 92 ∷ first ∷ second ∷ 48 ∷ []

abbrev IsUnderWay : Escape → Type 0
IsUnderWay Outside = ⊥
IsUnderWay _ = Unit {0}

module _ (place : EntrySoFar) (quoted : Bool) (w : List ℕ) where
  whole_escape : (e : Escape) (text : List ℕ) → CanGoOn e → IsUnderWay e
      → contents_from place (before quoted w (rest_of_token quoted e (missing e ++ text))) ≡ contents_from place (before quoted (w ++ escape e) (rest_of_token quoted Outside text))
  whole_escape Outside text go on = absurd on
  whole_escape Begun text go on = ap (contents_from place) (before_before quoted w (92 ∷ 97 ∷ []) (rest_of_token quoted Outside text))
  whole_escape (One first) text go on = rw go (ap (contents_from place) (before_before quoted w (92 ∷ first ∷ 48 ∷ 48 ∷ []) (rest_of_token quoted Outside text)))
  whole_escape (Two first second) text go on = rw go (ap (contents_from place) (before_before quoted w (92 ∷ first ∷ second ∷ 48 ∷ []) (rest_of_token quoted Outside text)))

  -- a text can end in the escape, and go on so that it has another fault or none
  not_escape : (e : Escape) (fault : LexFault) → CanGoOn e → IsUnderWay e → length w < MOST
      → ((more : List ℕ) → (contents_from place (before quoted w (rest_of_token quoted e more))).fault ≡ Some fault) → ⊥
  not_escape e fault go on room h =
      let text = ending quoted (closing place.depth) in
      let bad : (contents_from place (before quoted w (rest_of_token quoted e []))).fault ≡ Some (record { line = place.line; kind = BadEscape }) = ap (λ x. x.fault) (ends e on) in
      let here = h [] in
      let there = h (missing e ++ text) in
      let more = ap (λ x. x.fault) (whole_escape e text go on) in
      elim (cases_lt MOST (length (w ++ escape e))) [
        | inl long ↦ let other : (contents_from place (before quoted (w ++ escape e) (rest_of_token quoted Outside text))).fault ≡ Some (record { line = place.line; kind = TokenTooLong })
            = ap (λ x. x.fault) (too_long place quoted (w ++ escape e) (rest_of_token quoted Outside text) long) in
            different (sym bad ∙ here ∙ sym there ∙ more ∙ other)
        | inr short ↦ let none = token_ends place quoted (w ++ escape e) short in
            let same : None ≡ Some fault = sym none ∙ sym more ∙ there in
            absurd cc
      ] where
        ends : (e : Escape) → IsUnderWay e → contents_from place (before quoted w (rest_of_token quoted e [])) ≡ fails place.line BadEscape
        ends Outside on = absurd on
        ends Begun on = bad_ahead place quoted w room
        ends (One first) on = bad_ahead place quoted w room
        ends (Two first second) on = bad_ahead place quoted w room

        different : ◌≡◌ {A = Option LexFault} (Some (record { line = place.line; kind = BadEscape })) (Some (record { line = place.line; kind = TokenTooLong })) → ⊥
        different same = let k : BadEscape ≡ TokenTooLong = ap kind_in same in cc where
          kind_in : Option LexFault → LexKind
          kind_in None = OpenParen
          kind_in (Some fault) = fault.kind

-- the fault that is held
abbrev pub held_fault : Mode → Option LexFault
held_fault (Faulty fault) = Some fault
held_fault _ = None

ended : (fault : Option LexFault) (said : LexFault) → fault ≡ None → fault ≡ Some said → ⊥
ended None said h k = cc
ended (Some fault) said h k = cc

-- if a mode holds no fault, no fault is settled, however the text goes on
pub not_settled : (m : Mode) (s : LexState) (fault : LexFault) → Fits m s → held_fault m ≡ None → ((more : List ℕ) → (ahead_by m s more).fault ≡ Some fault) → ⊥
not_settled Start s fault fits none h = ended _ fault (closed (record (entry_so_far s) { blank_start = _ }) s.position.depth refl) (h (closing s.position.depth))
not_settled Between s fault fits none h = ended _ fault (closed (entry_so_far s) s.position.depth refl) (h (closing s.position.depth))
not_settled Comment s fault fits none h = ended _ fault (comment_ends (entry_so_far s)) (h (10 ∷ closing s.position.depth))
not_settled (InToken quoted Outside) s fault (go, room) none h =
    ended _ fault (token_ends (entry_so_far s) quoted s.raw (omega (arith, room))) (h (ending quoted (closing s.position.depth)))
not_settled (InToken quoted Begun) s fault (go, room) none h = not_escape (entry_so_far s) quoted s.raw Begun fault go tt (omega (arith, room)) h
not_settled (InToken quoted (One first)) s fault (go, room) none h = not_escape (entry_so_far s) quoted s.raw (One first) fault go tt (omega (arith, room)) h
not_settled (InToken quoted (Two first second)) s fault (go, room) none h = not_escape (entry_so_far s) quoted s.raw (Two first second) fault go tt (omega (arith, room)) h
not_settled (Faulty f) s fault fits none h = absurd cc
