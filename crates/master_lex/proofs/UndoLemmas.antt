-- What is held grows with each octet, so that the way back can be found.
use Rattle.std.proofs.Common.{◌≡◌, ℕ, ◌+◌, ◌-◌, ◌≤◌, Bool, true, false, cond, List, [], ◌∷◌, ◌++◌, length, refl, sym, ap, ◌∙◌, append_assoc, arith, inl, inr}
use Rattle.std.proofs.lemmas.List.{append-nil, length-append}
use Rattle.std.specs.Prelude.{nat_lt, nat_eq, nat_le}
use Rattle.std.proofs.lemmas.Bool.Decides.{nat_tests}
use Rattle.master_lex.specs.declared.entry.Entry.{Entry}
use Rattle.master_lex.specs.declared.entry.Token.{Token}
use Rattle.master_lex.specs.declared.fault.LexKind.{LexKind}
use Rattle.master_lex.specs.declared.octet.OctetKind.{OctetKind}
use Rattle.master_lex.specs.declared.octet.OctetKind.TheVariants.{Plain, Blank, LineFeed, Semicolon, Open, Close, Quote, Backslash}
use Rattle.master_lex.specs.declared.position.Position.{Position}
use Rattle.master_lex.specs.declared.position.Mode.{Mode}
use Rattle.master_lex.specs.declared.position.Mode.TheVariants.{Start, Between, Comment, InToken, Faulty}
use Rattle.master_lex.specs.declared.position.Escape.{Escape}
use Rattle.master_lex.specs.declared.position.Escape.TheVariants.{Outside, Begun, One, Two}
use Rattle.master_lex.specs.declared.scanner.TheConstants.{MOST}
use Rattle.dns_data.specs.Octet.{is_digit}
use Rattle.master_lex.specs.Octets.{kind, is_space}
use Rattle.master_lex.specs.Pieces.{is_code}
use Rattle.master_lex.specs.Lists.{is_empty}
use Rattle.master_lex.specs.States.{LexState, with_mode, kept, failed, escape_begun, token_ended, entry_of, entry_ended, line_ended, between_by, in_word_by, in_quotes_by, in_token, in_comment_by, passed_by, passed, run, SameStores, IsHalfway, CanGoOn, begun, Fits, IsTidy}
use Rattle.master_lex.specs.Undo.{TokensGrew, EntriesGrew, Grew}

-- a state is what its parts are
pub same_state : (s : LexState) {ready : List Entry} {tokens : List Token} {raw : List ℕ} {position : Position} → ready ≡ s.ready → tokens ≡ s.tokens → raw ≡ s.raw → position ≡ s.position
    → ◌≡◌ {A = LexState} (record { ready = ready; tokens = tokens; raw = raw; position = position }) s
same_state s a b c d = rw (a, b, c, d) refl

module _ (r : List Entry) (t : List Token) (w : List ℕ) where
  tokens_push : (T : List Token) (W new : List ℕ) → TokensGrew t w T W → TokensGrew t w T (W ++ new)
  tokens_push T W new (inl (same, (more, e))) = inl (same, (more ++ new, ap (λ (xs : List ℕ). xs ++ new) e ∙ append_assoc w more new))
  tokens_push T W new (inr g) = inr g

  tokens_end : (T : List Token) (W : List ℕ) (x : Token) → x.raw ≡ W → TokensGrew t w T W → TokensGrew t w (T ++ x ∷ []) []
  tokens_end T W x is (inl (same, (more, e))) = inr (x, ([], (more, (ap (λ (xs : List Token). xs ++ x ∷ []) same, is ∙ e))))
  tokens_end T W x is (inr (first, (others, (more, (e, f))))) =
      inr (first, (others ++ x ∷ [], (more, (ap (λ (xs : List Token). xs ++ x ∷ []) e ∙ append_assoc t (first ∷ others) (x ∷ []), f))))

  entries_push : (R : List Entry) (T : List Token) (W new : List ℕ) → EntriesGrew r t w R T W → EntriesGrew r t w R T (W ++ new)
  entries_push R T W new (inl (same, g)) = inl (same, tokens_push T W new g)
  entries_push R T W new (inr g) = inr g

  entries_end_token : (R : List Entry) (T : List Token) (W : List ℕ) (x : Token) → x.raw ≡ W → EntriesGrew r t w R T W → EntriesGrew r t w R (T ++ x ∷ []) []
  entries_end_token R T W x is (inl (same, g)) = inl (same, tokens_end T W x is g)
  entries_end_token R T W x is (inr g) = inr g

  entries_end : (R : List Entry) (e : Entry) (W : List ℕ) → W ≡ [] → EntriesGrew r t w R e.tokens W → EntriesGrew r t w (R ++ e ∷ []) [] W
  entries_end R e W none (inl (same, g)) = inr (e, ([], (ap (λ (xs : List Entry). xs ++ e ∷ []) same, rw none at g)))
  entries_end R e W none (inr (first, (others, (p, g)))) = inr (first, (others ++ e ∷ [], (ap (λ (xs : List Entry). xs ++ e ∷ []) p ∙ append_assoc r (first ∷ others) (e ∷ []), g)))

  none_or_more : (R : List Entry) (e : Entry) (T : List Token) (W : List ℕ) → W ≡ [] → e.tokens ≡ T → EntriesGrew r t w R T W → EntriesGrew r t w (cond (is_empty T) R (R ++ e ∷ [])) [] W
  none_or_more R e [] W none same g = g
  none_or_more R e (x ∷ xs) W none same g = entries_end R e W none (rw (← same) at g)

-- what is held grew from what it is
pub grew_none : (s : LexState) → Grew s s
grew_none s = inl (refl, inl (refl, ([], sym (append-nil s.raw))))

-- one octet makes this of what is held
pub record Moves (s s' : LexState) : Type 0 where
  pub grew : (before : LexState) → Grew before s → Grew before s'
  pub line : s'.position.line ≤ s.position.line + 1
  pub depth : s'.position.depth ≤ s.position.depth + 1
  pub tidy : IsTidy s'

moves_way : (s : LexState) (position : Position) → position.line ≤ s.position.line + 1 → position.depth ≤ s.position.depth + 1
    → Fits position.mode (record s { position = position }) → Moves s (record s { position = position })
moves_way s position l d t = record { grew = λ before g. g; line = l; depth = d; tidy = t }

moves_fail : (s : LexState) (k : LexKind) → Moves s (failed s k)
moves_fail s k = moves_way s _ (omega arith) (omega arith) tt

moves_choice : (s : LexState) (b : Bool) (x y : LexState) → (b ≡ true → Moves s x) → Moves s y → Moves s (cond b x y)
moves_choice s true x y p q = p refl
moves_choice s false x y p q = q

moves_keep : (s : LexState) (w : List ℕ) (q : Bool) → length s.raw ≤ MOST → Moves s (kept s w q)
moves_keep s w q room =
    moves_choice s (nat_le (length w) (MOST - length s.raw)) _ _
    (λ short. record {
      grew = λ before g. entries_push before.ready before.tokens before.raw s.ready s.tokens s.raw w g;
      line = omega arith;
      depth = omega arith;
      tidy = (tt, let l : length w ≤ MOST - length s.raw = grind (arith, nat_tests) in omega (arith, l, room, length-append s.raw w));
    })
    (moves_fail s _)

-- an escape begins or goes on
moves_escape : (s : LexState) (b : Bool) (k : LexKind) (q : Bool) (e : Escape) → (b ≡ true → CanGoOn e × (length s.raw + begun e ≤ MOST)) → Moves s (cond b (with_mode s (InToken q e)) (failed s k))
moves_escape s b k q e h = moves_choice s b _ _ (λ is. moves_way s _ (omega arith) (omega arith) (h is)) (moves_fail s k)

moves_backslash : (s : LexState) (q : Bool) → Moves s (escape_begun s q)
moves_backslash s q = moves_escape s (nat_lt (length s.raw) MOST) _ q Begun (λ short. (tt, grind (arith, nat_tests)))

moves_token : (s : LexState) (q : Bool) → Moves s (token_ended s q)
moves_token s q = record { grew = λ before g. entries_end_token before.ready before.tokens before.raw s.ready s.tokens s.raw (record { raw = s.raw; quoted = q }) refl g; line = omega arith; depth = omega arith; tidy = refl }

moves_entry : (s : LexState) → s.raw ≡ [] → Moves s (entry_ended s)
moves_entry s none = record { grew = λ before g. none_or_more before.ready before.tokens before.raw s.ready (entry_of s) s.tokens s.raw none refl g; line = omega arith; depth = omega arith; tidy = (none, refl) }

moves_line : (s : LexState) → s.raw ≡ [] → Moves s (line_ended s)
moves_line s none = moves_choice s (nat_eq s.position.depth 0) _ _ (λ is. moves_entry s none) (moves_way s _ (omega arith) (omega arith) none)

moves_between : (k : OctetKind) (s : LexState) (c : ℕ) → s.raw ≡ [] → Moves s (between_by k s c)
moves_between Plain s c none = moves_keep s (c ∷ []) false (rw none (omega arith))
moves_between Blank s c none = moves_way s _ (omega arith) (omega arith) none
moves_between LineFeed s c none = moves_line s none
moves_between Semicolon s c none = moves_way s _ (omega arith) (omega arith) none
moves_between Open s c none = moves_way s _ (omega arith) (omega arith) none
moves_between Close s c none = moves_choice s (nat_eq s.position.depth 0) _ _ (λ is. moves_fail s _) (moves_way s _ (omega arith) (omega arith) none)
moves_between Quote s c none = moves_way s _ (omega arith) (omega arith) (tt, rw none (omega arith))
moves_between Backslash s c none = moves_backslash s false

moves_after : (s : LexState) (k : OctetKind) (c : ℕ) → Moves s (between_by k (token_ended s false) c)
moves_after s k c =
    let m = moves_between k (token_ended s false) c refl in
    record { grew = λ before g. m.grew before ((moves_token s false).grew before g); line = m.line; depth = m.depth; tidy = m.tidy }

moves_word : (k : OctetKind) (s : LexState) (c : ℕ) → length s.raw ≤ MOST → Moves s (in_word_by k s c)
moves_word Plain s c room = moves_keep s (c ∷ []) false room
moves_word Backslash s c room = moves_backslash s false
moves_word Blank s c room = moves_after s Blank c
moves_word LineFeed s c room = moves_after s LineFeed c
moves_word Semicolon s c room = moves_after s Semicolon c
moves_word Open s c room = moves_after s Open c
moves_word Close s c room = moves_after s Close c
moves_word Quote s c room = moves_after s Quote c

moves_quotes : (k : OctetKind) (s : LexState) (c : ℕ) → length s.raw ≤ MOST → Moves s (in_quotes_by k s c)
moves_quotes Quote s c room = moves_token s true
moves_quotes LineFeed s c room = moves_fail s _
moves_quotes Backslash s c room = moves_backslash s true
moves_quotes Plain s c room = moves_keep s (c ∷ []) true room
moves_quotes Blank s c room = moves_keep s (c ∷ []) true room
moves_quotes Semicolon s c room = moves_keep s (c ∷ []) true room
moves_quotes Open s c room = moves_keep s (c ∷ []) true room
moves_quotes Close s c room = moves_keep s (c ∷ []) true room

moves_token_octet : (q : Bool) (e : Escape) (s : LexState) (c : ℕ) → length s.raw + begun e ≤ MOST → Moves s (in_token q e s c)
moves_token_octet false Outside s c room = moves_word (kind c) s c (omega (arith, room))
moves_token_octet true Outside s c room = moves_quotes (kind c) s c (omega (arith, room))
moves_token_octet q Begun s c room =
    moves_choice s (is_digit c) _ _ (λ is. moves_escape s (is_code c 48 48) _ q (One c) (λ h. (h, room)))
    (moves_choice s (nat_eq c 10) _ _ (λ is. moves_fail s _) (moves_keep s (92 ∷ c ∷ []) q (omega (arith, room))))
moves_token_octet q (One a) s c room = moves_escape s (is_code a c 48) _ q (Two a c) (λ h. (h, room))
moves_token_octet q (Two a b) s c room = moves_choice s (is_code a b c) _ _ (λ is. moves_keep s (92 ∷ a ∷ b ∷ c ∷ []) q (omega (arith, room))) (moves_fail s _)

moves_comment : (k : OctetKind) (s : LexState) → IsTidy s → s.raw ≡ [] → Moves s (in_comment_by k s)
moves_comment LineFeed s tidy none = moves_line s none
moves_comment _ s tidy none = record { grew = λ before g. g; line = omega arith; depth = omega arith; tidy = tidy }

moves_by : (m : Mode) (s : LexState) (c : ℕ) → IsTidy s → Fits m s → Moves s (passed_by m s c)
moves_by Start s c tidy (none, blank) =
    let m = moves_between (kind c) (record s { position = record s.position { blank_start = is_space c } }) c none in
    record { grew = m.grew; line = m.line; depth = m.depth; tidy = m.tidy }
moves_by Between s c tidy none = moves_between (kind c) s c none
moves_by Comment s c tidy none = moves_comment (kind c) s tidy none
moves_by (InToken q e) s c tidy (go, room) = moves_token_octet q e s c room
moves_by (Faulty fault) s c tidy none = record { grew = λ before g. g; line = omega arith; depth = omega arith; tidy = tidy }

-- one octet lets what is held grow, and takes it on by at most one line and one parenthesis
pub moves : (s : LexState) (c : ℕ) → IsTidy s → Moves s (passed s c)
unfolding passed
moves s c tidy = moves_by s.position.mode s c tidy tidy

-- so many octets make this of what is held
pub record MovesFar (count : ℕ) (s s' : LexState) : Type 0 where
  pub grew : (before : LexState) → Grew before s → Grew before s'
  pub line : s'.position.line ≤ s.position.line + count
  pub depth : s'.position.depth ≤ s.position.depth + count
  pub tidy : IsTidy s'

-- octets let what is held grow, and take it on by at most as many lines and parentheses
pub moves_far : (s : LexState) (octets : List ℕ) → IsTidy s → MovesFar (length octets) s (run s octets)
moves_far s [] tidy = record { grew = λ before g. g; line = omega arith; depth = omega arith; tidy = tidy }
moves_far s (c ∷ cs) tidy =
    let m = moves s c tidy in
    let r = moves_far (passed s c) cs m.tidy in
    record { grew = λ before g. r.grew before (m.grew before g); line = omega (arith, m.line, r.line); depth = omega (arith, m.depth, r.depth); tidy = r.tidy }

-- stores that hold the same grew in the same way
pub same_grew : (before s s' : LexState) → SameStores s s' → Grew before s → Grew before s'
same_grew before s s' same g = rw (same.ready, same.tokens, same.raw) g

-- what is held grew also where the next octet isn't passed over
pub halfway_grew : (before s s' : LexState) → IsHalfway s s' → Grew before s → Grew before s'
halfway_grew before s s' (inl same) g = same_grew before s s' same g
halfway_grew before s s' (inr same) g = same_grew before (token_ended s false) s' same ((moves_token s false).grew before g)
