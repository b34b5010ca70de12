-- One octet more, and what is ahead of what is held.
use Rattle.std.proofs.Common.{◌≡◌, ℕ, ◌+◌, ◌-◌, ◌<◌, ◌≤◌, Bool, true, false, List, [], ◌∷◌, ◌++◌, length, refl, sym, ap, ◌∙◌, append_assoc, arith, eqb-true}
use Rattle.std.specs.Prelude.{◌||◌, ◌==◌, nat_eq, nat_lt, nat_le, if◌then◌else◌}
use Rattle.std.proofs.lemmas.List.{length-append, append-nil}
use Rattle.std.proofs.lemmas.Bool.{le-ltb, ltb-false}
use Rattle.std.proofs.lemmas.Bool.Decides.{nat_tests}
use Rattle.dns_data.specs.Octet.{is_digit}
use Rattle.master_lex.specs.declared.entry.Entry.{Entry}
use Rattle.master_lex.specs.declared.fault.LexKind.TheVariants.{OpenQuote, StrayClose, BadEscape, TokenTooLong}
use Rattle.master_lex.specs.declared.octet.OctetKind.{OctetKind}
use Rattle.master_lex.specs.declared.octet.OctetKind.TheVariants.{Plain, Blank, LineFeed, Semicolon, Open, Close, Quote, Backslash}
use Rattle.master_lex.specs.declared.scanner.TheConstants.{MOST}
use Rattle.master_lex.specs.declared.position.Mode.{Mode}
use Rattle.master_lex.specs.declared.position.Mode.TheVariants.{Start, Between, Comment, InToken, Faulty}
use Rattle.master_lex.specs.declared.position.Escape.TheVariants.{Outside, Begun, One, Two}
use Rattle.master_lex.specs.Lists.{is_empty}
use Rattle.master_lex.specs.Octets.{kind, is_space}
use Rattle.master_lex.specs.Pieces.{is_code, Piece, Skipped, LineEnd, Written, Broken, before, bad_escape, pieces, comment, in_quotes, after_backslash, after_digit, after_two_digits}
use Rattle.master_lex.specs.Contents.{EntrySoFar, begins_blank, entry_start, entry_at, fails, behind, contents_from}
use Rattle.master_lex.specs.States.{LexState, with_mode, failed, pushed, kept, escape_begun, token_ended, entry_of, entry_ended, between_by, in_word_by, in_quotes_by, behind_backslash, behind_digit, behind_digits, in_comment_by, passed_by, passed, Fits, IsTidy, entry_so_far, rest_of_token, ahead_by, ahead}
use Rattle.master_lex.proofs.Ahead.{by_kind, pieces_by_kind, before_before, too_long}

-- what an escape spells goes on with its token
pub escape_of : (quoted : Bool) (text : List ℕ) → (more : List ℕ) × ((rest : List Piece) × (after_backslash quoted text ≡ before quoted (92 ∷ more) rest))
escape_of quoted text = by quoted text where
  bad_of : (q : Bool) → (more : List ℕ) × ((rest : List Piece) × (bad_escape q ≡ before q (92 ∷ more) rest))
  bad_of false = ([], (Broken BadEscape ∷ [], refl))
  bad_of true = ([], (Broken BadEscape ∷ [], refl))

  if_of : (q b : Bool) (x y : List Piece) → ((more : List ℕ) × ((rest : List Piece) × (x ≡ before q (92 ∷ more) rest)))
      → ((more : List ℕ) × ((rest : List Piece) × (y ≡ before q (92 ∷ more) rest))) → (more : List ℕ) × ((rest : List Piece) × ((if b then x else y) ≡ before q (92 ∷ more) rest))
  if_of q true x y h k = h
  if_of q false x y h k = k

  third : (q : Bool) (a b : ℕ) (text : List ℕ) → (more : List ℕ) × ((rest : List Piece) × (after_two_digits q a b text ≡ before q (92 ∷ more) rest))
  third q a b [] = bad_of q
  third q a b (c ∷ text) = if_of q (is_code a b c) _ _ (a ∷ b ∷ c ∷ [], (_, refl)) (bad_of q)

  second : (q : Bool) (a : ℕ) (text : List ℕ) → (more : List ℕ) × ((rest : List Piece) × (after_digit q a text ≡ before q (92 ∷ more) rest))
  second q a [] = bad_of q
  second q a (b ∷ text) = third q a b text

  by : (q : Bool) (text : List ℕ) → (more : List ℕ) × ((rest : List Piece) × (after_backslash q text ≡ before q (92 ∷ more) rest))
  by q [] = bad_of q
  by q (c ∷ text) = if_of q (is_digit c) _ _ (second q c text) (if_of q (c == 10) _ _ (bad_of q) (c ∷ [], (_, refl)))

escape_alone : (quoted : Bool) (text : List ℕ) → before quoted [] (after_backslash quoted text) ≡ after_backslash quoted text
escape_alone quoted text =
    let e = escape_of quoted text in
    ap (before quoted []) e.1.1 ∙ before_before quoted [] (92 ∷ e.0) e.1.0 ∙ sym e.1.1

-- ---- one octet more in a token

module _ (s : LexState) (quoted : Bool) where
  -- octets that are kept
  kept_ahead : (w text : List ℕ) → behind s.ready (contents_from (entry_so_far s) (before quoted (s.raw ++ w) (rest_of_token quoted Outside text))) ≡ ahead (kept s w quoted) text
  kept_ahead w text = by (nat_le (length w) (MOST - length s.raw)) refl where
    by : (short : Bool) → nat_le (length w) (MOST - length s.raw) ≡ short
        → behind s.ready (contents_from (entry_so_far s) (before quoted (s.raw ++ w) (rest_of_token quoted Outside text)))
        ≡ ahead (if short then pushed s w quoted else failed s TokenTooLong) text
    by true h = refl
    by false h = ap (behind s.ready) (too_long (entry_so_far s) quoted (s.raw ++ w) (rest_of_token quoted Outside text) (let l : MOST - length s.raw < length w = grind (arith, nat_tests) in omega (arith, l, length-append s.raw w)))

  -- a backslash
  escape_ahead : (text : List ℕ) → behind s.ready (contents_from (entry_so_far s) (before quoted s.raw (after_backslash quoted text))) ≡ ahead (escape_begun s quoted) text
  escape_ahead text = by (nat_lt (length s.raw) MOST) refl where
    long : MOST ≤ length s.raw → contents_from (entry_so_far s) (before quoted s.raw (after_backslash quoted text)) ≡ fails s.position.line TokenTooLong
    long l =
        let e = escape_of quoted text in
        ap (λ x. contents_from (entry_so_far s) (before quoted s.raw x)) e.1.1
        ∙ ap (contents_from (entry_so_far s)) (before_before quoted s.raw (92 ∷ e.0) e.1.0)
        ∙ too_long (entry_so_far s) quoted (s.raw ++ 92 ∷ e.0) e.1.0 (omega (arith, l, length-append s.raw (92 ∷ e.0)))

    by : (short : Bool) → nat_lt (length s.raw) MOST ≡ short
        → behind s.ready (contents_from (entry_so_far s) (before quoted s.raw (after_backslash quoted text)))
        ≡ ahead (if short then with_mode s (InToken quoted Begun) else failed s TokenTooLong) text
    by true h = refl
    by false h = ap (behind s.ready) (long (ltb-false _ _ h))

  -- once a token is whole, what is ahead is read behind it
  pub ended_ahead : (rest : List Piece) → length s.raw ≤ MOST → contents_from (entry_so_far s) (Written quoted s.raw ∷ rest) ≡ contents_from (entry_so_far (token_ended s quoted)) rest
  ended_ahead rest h = rw (le-ltb 131072 (length s.raw) h) refl

-- a backslash that spells nothing is a fault, whatever comes behind it
pub bad_ahead : (place : EntrySoFar) (quoted : Bool) (w : List ℕ) → length w < MOST → contents_from place (before quoted w (bad_escape quoted)) ≡ fails place.line BadEscape
bad_ahead place false w h = rw (le-ltb 131072 (length (w ++ 92 ∷ [])) (omega (arith, h, length-append w (92 ∷ [])))) refl
bad_ahead place true w h = rw (le-ltb 131072 (length (w ++ 92 ∷ [])) (omega (arith, h, length-append w (92 ∷ [])))) refl

-- ---- outside tokens and comments

between_ahead : (k : OctetKind) (s : LexState) (octet : ℕ) (text : List ℕ) → s.raw ≡ [] → behind s.ready (contents_from (entry_so_far s) (by_kind k octet text)) ≡ ahead (between_by k s octet) text
between_ahead Plain s octet text h = ap (λ (w : List ℕ). behind s.ready (contents_from (entry_so_far s) (before false (w ++ octet ∷ []) (pieces text)))) (sym h) ∙ kept_ahead s false (octet ∷ []) text
between_ahead Blank s octet text h = refl
between_ahead LineFeed s octet text h = by (nat_eq s.position.depth 0) where
  entry : (none : Bool) → behind s.ready (behind (if none then [] else entry_of s ∷ []) (contents_from (entry_start (s.position.line + 1) (pieces text)) (pieces text)))
      ≡ behind (if none then s.ready else s.ready ++ entry_of s ∷ []) (contents_from (entry_start (s.position.line + 1) (pieces text)) (pieces text))
  entry true = refl
  entry false = ap (λ (w : List Entry). record (contents_from (entry_start (s.position.line + 1) (pieces text)) (pieces text)) { whole = w }) (sym (append_assoc s.ready (entry_of s ∷ []) _))

  by : (outside : Bool)
      → behind s.ready (if outside then behind (entry_at (entry_so_far s)) (contents_from (entry_start (s.position.line + 1) (pieces text)) (pieces text)) else contents_from (record (entry_so_far s) { line = s.position.line + 1 }) (pieces text))
      ≡ ahead (if outside then entry_ended s else record s { position = record s.position { line = s.position.line + 1; mode = Between } }) text
  by true = entry (is_empty s.tokens)
  by false = refl
between_ahead Semicolon s octet text h = refl
between_ahead Open s octet text h = refl
between_ahead Close s octet text h = by (nat_eq s.position.depth 0) where
  by : (outside : Bool)
      → behind s.ready (if outside then fails s.position.line StrayClose else contents_from (record (entry_so_far s) { depth = s.position.depth - 1 }) (pieces text))
      ≡ ahead (if outside then failed s StrayClose else record s { position = record s.position { depth = s.position.depth - 1; mode = Between } }) text
  by true = refl
  by false = refl
between_ahead Quote s octet text h = ap (λ (w : List ℕ). behind s.ready (contents_from (entry_so_far s) (before true w (in_quotes text)))) (sym h)
between_ahead Backslash s octet text h =
    ap (λ x. behind s.ready (contents_from (entry_so_far s) x)) (sym (escape_alone false text))
    ∙ ap (λ (w : List ℕ). behind s.ready (contents_from (entry_so_far s) (before false w (after_backslash false text)))) (sym h)
    ∙ escape_ahead s false text

-- ---- the start of an entry

space_blank : (octet : ℕ) → is_space octet ≡ true → kind octet ≡ Blank
unfolding kind
space_blank octet h = by (nat_eq octet 32) (nat_eq octet 9) (nat_eq octet 13) h where
  by : (a b c : Bool) → (a || b) ≡ true
      → (if a || b || c then Blank
      else if octet == 10 then LineFeed
      else if octet == 59 then Semicolon
      else if octet == 40 then Open
      else if octet == 41 then Close
      else if octet == 34 then Quote
      else if octet == 92 then Backslash
      else Plain) ≡ Blank
  by true b c h = refl
  by false true c h = refl
  by false false c h = absurd cc

not_space : (octet : ℕ) (k : OctetKind) → kind octet ≡ k → (k ≡ Blank → ⊥) → is_space octet ≡ false
not_space octet k e other = by (is_space octet) refl where
  by : (b : Bool) → is_space octet ≡ b → b ≡ false
  by true h = absurd (other (sym e ∙ space_blank octet h))
  by false h = refl

begins_word : (quoted : Bool) (octets : List ℕ) (rest : List Piece) → begins_blank (before quoted octets rest) ≡ false
begins_word false octets (Written false more ∷ rest) = refl
begins_word true octets (Written true more ∷ rest) = refl
begins_word false octets _ = refl
begins_word true octets _ = refl

begins_by : (k : OctetKind) (octet : ℕ) (text : List ℕ) → kind octet ≡ k → begins_blank (by_kind k octet text) ≡ is_space octet
begins_by Blank octet text e = refl
begins_by Semicolon octet text e = refl
begins_by LineFeed octet text e = sym (not_space octet LineFeed e (λ h. cc))
begins_by Open octet text e = sym (not_space octet Open e (λ h. cc))
begins_by Close octet text e = sym (not_space octet Close e (λ h. cc))
begins_by Quote octet text e = begins_word true [] (in_quotes text) ∙ sym (not_space octet Quote e (λ h. cc))
begins_by Plain octet text e = begins_word false (octet ∷ []) (pieces text) ∙ sym (not_space octet Plain e (λ h. cc))
begins_by Backslash octet text e =
    let w = escape_of false text in
    ap begins_blank w.1.1 ∙ begins_word false (92 ∷ w.0) w.1.0 ∙ sym (not_space octet Backslash e (λ h. cc))

begins : (octet : ℕ) (text : List ℕ) → begins_blank (pieces (octet ∷ text)) ≡ is_space octet
begins octet text = ap begins_blank (pieces_by_kind octet text) ∙ begins_by (kind octet) octet text refl

-- ---- comments

comment_by : (k : OctetKind) (s : LexState) (octet : ℕ) (text : List ℕ) → kind octet ≡ k → s.position.mode ≡ Comment → s.raw ≡ []
    → behind s.ready (contents_from (entry_so_far s) (comment (octet ∷ text))) ≡ ahead (in_comment_by k s) text
unfolding kind
comment_by k s octet text e m none = by (nat_eq octet 10) refl where
  same : (k : OctetKind) → (k ≡ LineFeed → ⊥) → in_comment_by k s ≡ s
  same LineFeed h = absurd (h refl)
  same Plain h = refl
  same Blank h = refl
  same Semicolon h = refl
  same Open h = refl
  same Close h = refl
  same Quote h = refl
  same Backslash h = refl

  feed : k ≡ LineFeed → octet ≡ 10
  feed h = grind (arith, nat_tests, e, h)

  by : (b : Bool) → nat_eq octet 10 ≡ b → behind s.ready (contents_from (entry_so_far s) (if b then LineEnd ∷ pieces text else Skipped octet ∷ comment text)) ≡ ahead (in_comment_by k s) text
  by true h =
      let ten : octet ≡ 10 = eqb-true octet 10 h in
      let is : k ≡ LineFeed = sym e ∙ ap kind ten in
      between_ahead LineFeed s octet text none ∙ ap (λ (k : OctetKind). ahead (in_comment_by k s) text) (sym is)
  by false h =
      sym (ap (λ (x : LexState). ahead x text) (same k (λ is. let ten = feed is in cc)) ∙ ap (λ (m : Mode). behind s.ready (ahead_by m s text)) m)

-- ---- tokens

word_ends : (k : OctetKind) (w : List ℕ) (octet : ℕ) (text : List ℕ) → (k ≡ Plain → ⊥) → (k ≡ Backslash → ⊥)
    → before false w (by_kind k octet text) ≡ Written false w ∷ by_kind k octet text
word_ends Plain w octet text p b = absurd (p refl)
word_ends Backslash w octet text p b = absurd (b refl)
word_ends Blank w octet text p b = refl
word_ends LineFeed w octet text p b = refl
word_ends Semicolon w octet text p b = refl
word_ends Open w octet text p b = refl
word_ends Close w octet text p b = refl
word_ends Quote w octet text p b = by (in_quotes text) where
  by : (rest : List Piece) → before false w (before true [] rest) ≡ Written false w ∷ before true [] rest
  by (Written true more ∷ rest) = refl
  by _ = refl

module _ (s : LexState) (octet : ℕ) (text : List ℕ) where
  word_ahead_by : (k : OctetKind) → length s.raw ≤ MOST → behind s.ready (contents_from (entry_so_far s) (before false s.raw (by_kind k octet text))) ≡ ahead (in_word_by k s octet) text
  word_ahead_by k h = by k where
    ended : (k : OctetKind) → (k ≡ Plain → ⊥) → (k ≡ Backslash → ⊥)
        → behind s.ready (contents_from (entry_so_far s) (before false s.raw (by_kind k octet text))) ≡ ahead (between_by k (token_ended s false) octet) text
    ended k p b =
        ap (λ x. behind s.ready (contents_from (entry_so_far s) x)) (word_ends k s.raw octet text p b)
        ∙ ap (behind s.ready) (ended_ahead s false (by_kind k octet text) h)
        ∙ between_ahead k (token_ended s false) octet text refl

    by : (k : OctetKind) → behind s.ready (contents_from (entry_so_far s) (before false s.raw (by_kind k octet text))) ≡ ahead (in_word_by k s octet) text
    by Plain = ap (λ x. behind s.ready (contents_from (entry_so_far s) x)) (before_before false s.raw (octet ∷ []) (pieces text)) ∙ kept_ahead s false (octet ∷ []) text
    by Backslash = escape_ahead s false text
    by Blank = ended Blank (λ h. cc) (λ h. cc)
    by LineFeed = ended LineFeed (λ h. cc) (λ h. cc)
    by Semicolon = ended Semicolon (λ h. cc) (λ h. cc)
    by Open = ended Open (λ h. cc) (λ h. cc)
    by Close = ended Close (λ h. cc) (λ h. cc)
    by Quote = ended Quote (λ h. cc) (λ h. cc)

  quotes_ahead : length s.raw ≤ MOST → behind s.ready (contents_from (entry_so_far s) (before true s.raw (in_quotes (octet ∷ text)))) ≡ ahead (in_quotes_by (kind octet) s octet) text
  unfolding kind
  quotes_ahead h = by (nat_eq octet 34) (nat_eq octet 10) (nat_eq octet 92) refl refl refl where
    plain : (k : OctetKind) → (k ≡ Quote → ⊥) → (k ≡ LineFeed → ⊥) → (k ≡ Backslash → ⊥) → in_quotes_by k s octet ≡ kept s (octet ∷ []) true
    plain Quote q f b = absurd (q refl)
    plain LineFeed q f b = absurd (f refl)
    plain Backslash q f b = absurd (b refl)
    plain Plain q f b = refl
    plain Blank q f b = refl
    plain Semicolon q f b = refl
    plain Open q f b = refl
    plain Close q f b = refl

    Goal : ℕ → List Piece → Type 0
    Goal c x = behind s.ready (contents_from (entry_so_far s) (before true s.raw x)) ≡ ahead (in_quotes_by (kind c) s c) text

    by : (quote feed backslash : Bool) → nat_eq octet 34 ≡ quote → nat_eq octet 10 ≡ feed → nat_eq octet 92 ≡ backslash
        → Goal octet (if quote then Written true [] ∷ pieces text else (if feed then Broken OpenQuote ∷ [] else (if backslash then after_backslash true text else before true (octet ∷ []) (in_quotes text))))
    by true f b e g i =
        let is : octet ≡ 34 = eqb-true octet 34 e in
        ap (λ (w : List ℕ). behind s.ready (contents_from (entry_so_far s) (Written true w ∷ pieces text))) (append-nil s.raw)
        ∙ ap (behind s.ready) (ended_ahead s true (pieces text) h) ∙ sym (ap (λ c. ahead (in_quotes_by (kind c) s c) text) is)
    by false true b e g i =
        let is : octet ≡ 10 = eqb-true octet 10 g in
        ap (behind s.ready) (ended_ahead s true (Broken OpenQuote ∷ []) h) ∙ sym (ap (λ c. ahead (in_quotes_by (kind c) s c) text) is)
    by false false true e g i =
        let is : octet ≡ 92 = eqb-true octet 92 i in
        escape_ahead s true text ∙ sym (ap (λ c. ahead (in_quotes_by (kind c) s c) text) is)
    by false false false e g i =
        ap (λ x. behind s.ready (contents_from (entry_so_far s) x)) (before_before true s.raw (octet ∷ []) (in_quotes text)) ∙ kept_ahead s true (octet ∷ []) text
        ∙ sym (ap (λ (x : LexState). ahead x text) (plain (kind octet) (λ is. grind (arith, nat_tests, is, e, g, i)) (λ is. grind (arith, nat_tests, is, e, g, i)) (λ is. grind (arith, nat_tests, is, e, g, i))))

-- ---- escapes

third_bad : (quoted : Bool) (a b : ℕ) (text : List ℕ) → is_code a b 48 ≡ false → after_two_digits quoted a b text ≡ bad_escape quoted
third_bad quoted a b [] h = refl
third_bad quoted a b (c ∷ text) h = by (is_code a b c) refl where
  by : (x : Bool) → is_code a b c ≡ x → (if x then before quoted (92 ∷ a ∷ b ∷ c ∷ []) (if quoted then in_quotes text else pieces text) else bad_escape quoted) ≡ bad_escape quoted
  by false e = refl
  by true e = absurd (grind (arith, nat_tests))

second_bad : (quoted : Bool) (a : ℕ) (text : List ℕ) → is_code a 48 48 ≡ false → after_digit quoted a text ≡ bad_escape quoted
second_bad quoted a [] h = refl
second_bad quoted a (b ∷ []) h = refl
second_bad quoted a (b ∷ c ∷ text) h = by (is_code a b c) refl where
  by : (x : Bool) → is_code a b c ≡ x → (if x then before quoted (92 ∷ a ∷ b ∷ c ∷ []) (if quoted then in_quotes text else pieces text) else bad_escape quoted) ≡ bad_escape quoted
  by false e = refl
  by true e = absurd (grind (arith, nat_tests))

module _ (s : LexState) (quoted : Bool) (octet : ℕ) (text : List ℕ) (room : length s.raw + 1 ≤ MOST) where
  bad : behind s.ready (contents_from (entry_so_far s) (before quoted s.raw (bad_escape quoted))) ≡ ahead (failed s BadEscape) text
  bad = ap (behind s.ready) (bad_ahead (entry_so_far s) quoted s.raw (omega (arith, room)))

  more : (w : List ℕ) → behind s.ready (contents_from (entry_so_far s) (before quoted s.raw (before quoted w (rest_of_token quoted Outside text)))) ≡ ahead (kept s w quoted) text
  more w = ap (λ x. behind s.ready (contents_from (entry_so_far s) x)) (before_before quoted s.raw w (rest_of_token quoted Outside text)) ∙ kept_ahead s quoted w text

  backslash_ahead : behind s.ready (contents_from (entry_so_far s) (before quoted s.raw (after_backslash quoted (octet ∷ text)))) ≡ ahead (behind_backslash s octet quoted) text
  backslash_ahead = by (is_digit octet) (nat_eq octet 10) (is_code octet 48 48) refl where
    by : (digit feed code : Bool) → is_code octet 48 48 ≡ code
        → behind s.ready (contents_from (entry_so_far s) (before quoted s.raw (if digit then after_digit quoted octet text else (if feed then bad_escape quoted
        else before quoted (92 ∷ octet ∷ []) (rest_of_token quoted Outside text)))))
        ≡ ahead (if digit then (if code then with_mode s (InToken quoted (One octet)) else failed s BadEscape) else (if feed then failed s BadEscape else kept s (92 ∷ octet ∷ []) quoted)) text
    by true feed true e = refl
    by true feed false e = ap (λ x. behind s.ready (contents_from (entry_so_far s) (before quoted s.raw x))) (second_bad quoted octet text e) ∙ bad
    by false true code e = bad
    by false false code e = more (92 ∷ octet ∷ [])

  digit_ahead : (first : ℕ) → behind s.ready (contents_from (entry_so_far s) (before quoted s.raw (after_digit quoted first (octet ∷ text)))) ≡ ahead (behind_digit first s octet quoted) text
  digit_ahead first = by (is_code first octet 48) refl where
    by : (code : Bool) → is_code first octet 48 ≡ code → behind s.ready (contents_from (entry_so_far s) (before quoted s.raw (after_two_digits quoted first octet text)))
        ≡ ahead (if code then with_mode s (InToken quoted (Two first octet)) else failed s BadEscape) text
    by true e = refl
    by false e = ap (λ x. behind s.ready (contents_from (entry_so_far s) (before quoted s.raw x))) (third_bad quoted first octet text e) ∙ bad

  digits_ahead : (first second : ℕ) → behind s.ready (contents_from (entry_so_far s) (before quoted s.raw (after_two_digits quoted first second (octet ∷ text)))) ≡ ahead (behind_digits first second s octet quoted) text
  digits_ahead first second = by (is_code first second octet) where
    by : (code : Bool) → behind s.ready (contents_from (entry_so_far s) (before quoted s.raw (if code then before quoted (92 ∷ first ∷ second ∷ octet ∷ []) (rest_of_token quoted Outside text) else bad_escape quoted)))
        ≡ ahead (if code then kept s (92 ∷ first ∷ second ∷ octet ∷ []) quoted else failed s BadEscape) text
    by true = more (92 ∷ first ∷ second ∷ octet ∷ [])
    by false = bad

-- ---- one octet, and all octets

step_by : (m : Mode) (s : LexState) (octet : ℕ) (text : List ℕ) → s.position.mode ≡ m → Fits m s → behind s.ready (ahead_by m s (octet ∷ text)) ≡ ahead (passed_by m s octet) text
step_by Start s octet text e (none, blank) =
    ap (λ (b : Bool). behind s.ready (contents_from (record (entry_so_far s) { blank_start = b }) (pieces (octet ∷ text)))) (begins octet text)
    ∙ ap (λ x. behind s.ready (contents_from (record (entry_so_far s) { blank_start = is_space octet }) x)) (pieces_by_kind octet text)
    ∙ between_ahead (kind octet) (record s { position = record s.position { blank_start = is_space octet } }) octet text none
step_by Between s octet text e none =
    ap (λ x. behind s.ready (contents_from (entry_so_far s) x)) (pieces_by_kind octet text) ∙ between_ahead (kind octet) s octet text none
step_by Comment s octet text e none = comment_by (kind octet) s octet text refl e none
step_by (InToken false Outside) s octet text e (go, room) =
    ap (λ x. behind s.ready (contents_from (entry_so_far s) (before false s.raw x))) (pieces_by_kind octet text) ∙ word_ahead_by s octet text (kind octet) (omega (arith, room))
step_by (InToken true Outside) s octet text e (go, room) = quotes_ahead s octet text (omega (arith, room))
step_by (InToken quoted Begun) s octet text e (go, room) = backslash_ahead s quoted octet text room
step_by (InToken quoted (One first)) s octet text e (go, room) = digit_ahead s quoted octet text room first
step_by (InToken quoted (Two first second)) s octet text e (go, room) = digits_ahead s quoted octet text room first second
step_by (Faulty fault) s octet text e none = sym (ap (λ (m : Mode). behind s.ready (ahead_by m s text)) e)

-- what one octet more makes of what is held has the same ahead
pub step : (s : LexState) (octet : ℕ) (text : List ℕ) → IsTidy s → ahead s (octet ∷ text) ≡ ahead (passed s octet) text
unfolding passed
step s octet text tidy = step_by s.position.mode s octet text refl tidy
