-- Plain lines are passed over at once.
use Rattle.std.proofs.Common.{◌≡◌, ℕ, ◌+◌, ◌-◌, ◌<◌, ◌≤◌, Bool, true, false, List, [], ◌∷◌, ◌++◌, zero, suc, length, take, drop, get_or, refl, sym, ap, ◌∙◌, add-one, arith, inl, inr}
use Rattle.std.specs.Prelude.{not}
use Rattle.std.specs.List.{prefix_len}
use Rattle.std.proofs.lemmas.List.{length-take-le}
use Rattle.std.proofs.lemmas.List.Sums.{prefix_len_stops}
use Rattle.master_lex.specs.declared.entry.Token.{Token}
use Rattle.master_lex.specs.declared.octet.OctetKind.{OctetKind}
use Rattle.master_lex.specs.declared.octet.OctetKind.TheVariants.{Plain, Blank, LineFeed, Semicolon, Open, Close, Quote, Backslash}
use Rattle.master_lex.specs.declared.position.Mode.TheVariants.{Comment, InToken, Between}
use Rattle.master_lex.specs.declared.position.Escape.TheVariants.{Outside}
use Rattle.master_lex.specs.declared.scanner.TheConstants.{MOST}
use Rattle.master_lex.specs.Octets.{kind, is_space, is_blank, is_feed, ends_word, stands}
use Rattle.master_lex.specs.States.{LexState, with_mode, pushed, token_ended, line_ended, entry_ended, between_by, in_word_by, in_comment_by, passed_by, passed, run}
use Rattle.master_lex.specs.Plain.{with_plain, PassedFirst}
use Rattle.master_lex.specs.Lines.{line_entries, IsWord, IsQuoted, IsLineEnd, in_line, HoldsNothing, at_line, HasPassedLine}
use Rattle.master_lex.proofs.PlainLemmas.{kept_between, kept_in_token, comment_first, blank_first}
use Rattle.master_lex.proofs.Reached.{octet_more, first_more}

-- plain octets with white space or the line's end behind them are a whole token
pub is_word : (octets : List ℕ) (count : ℕ) → count ≡ prefix_len (λ octet. stands false (kind octet)) octets → count ≤ MOST → count < length octets
    → true ≡ ends_word (kind (get_or octets count 0)) → 0 < count → IsWord octets count
is_word octets count is short within ends some = record { some = some; plain = omega (arith, is); short = short; within = within; behind = sym ends }

-- an octet is passed over, and then more behind it
first_octet : (s s' : LexState) (octet : ℕ) (octets : List ℕ) (n count : ℕ) → count ≡ n + 1 → PassedFirst (passed s octet) s' octets n → PassedFirst s s' (octet ∷ octets) count
first_octet s s' octet octets n count is p = rw (is, add-one) (record { within = omega (arith, p.within); passed = p.passed })

module _ (s : LexState) (tokens : List Token) where
  -- a token is whole
  put : (raw : List ℕ) (quoted : Bool) → token_ended (pushed (in_line s tokens) raw quoted) quoted ≡ in_line s (tokens ++ record { raw = raw; quoted = quoted } ∷ [])
  put raw quoted = by tokens where
    by : (before : List Token) → token_ended (pushed (in_line s before) raw quoted) quoted ≡ in_line s (before ++ record { raw = raw; quoted = quoted } ∷ [])
    by [] = refl
    by (token ∷ others) = refl

  -- what a part of the line makes is made behind white space, too
  pub behind_blank : (s' : LexState) (octets : List ℕ) (blank count : ℕ) → blank ≡ prefix_len (λ octet. is_blank (kind octet)) octets
      → PassedFirst (in_line s tokens) s' (take (length octets - blank) (drop blank octets)) count → PassedFirst (in_line s tokens) s' octets (blank + count)
  behind_blank s' octets blank count is p = first_more (in_line s tokens) (in_line s tokens) s' octets blank count (blank_first (in_line s tokens) octets blank refl is) p

  word_begun : (octets : List ℕ) (count : ℕ) → IsWord octets count → PassedFirst (in_line s tokens) (pushed (in_line s tokens) (take count octets) false) octets count
  word_begun octets count word =
      kept_between (in_line s tokens) (pushed (in_line s tokens) (take count octets) false) octets refl count
      (record { plain = word.plain; short = omega (arith, word.short); kept = kept (take count octets) (omega (arith, word.some, length-take-le count octets (omega (arith, word.within)))) }) where
        kept : (raw : List ℕ) → 0 < length raw → pushed (in_line s tokens) raw false ≡ with_plain (in_line s tokens) raw false
        kept [] some = absurd (omega arith)
        kept (octet ∷ others) some = refl

  goes_on : (raw : List ℕ) (octet : ℕ) (k : OctetKind) → ends_word k ≡ true → is_feed k ≡ false → in_word_by k (pushed (in_line s tokens) raw false) octet ≡ in_line s (tokens ++ record { raw = raw; quoted = false } ∷ [])
  goes_on raw octet Blank ends feed = ap (λ x. with_mode x Between) (put raw false)
  goes_on raw octet LineFeed ends feed = absurd cc
  goes_on raw octet _ ends feed = absurd cc

  ends_line : (raw : List ℕ) (octet : ℕ) (k : OctetKind) → is_feed k ≡ true → in_word_by k (pushed (in_line s tokens) raw false) octet ≡ entry_ended (in_line s (tokens ++ record { raw = raw; quoted = false } ∷ []))
  ends_line raw octet LineFeed feed = ap line_ended (put raw false)
  ends_line raw octet _ feed = absurd cc

  -- a token without quotes, and the white space octet behind it, are passed over
  pub word_passed : (octets : List ℕ) (count : ℕ) → IsWord octets count → is_feed (kind (get_or octets count 0)) ≡ false
      → PassedFirst (in_line s tokens) (in_line s (tokens ++ record { raw = take count octets; quoted = false } ∷ [])) octets (count + 1)
  unfolding passed
  word_passed octets count word feed =
      octet_more (in_line s tokens) (pushed (in_line s tokens) (take count octets) false) (in_line s (tokens ++ record { raw = take count octets; quoted = false } ∷ [])) octets count (get_or octets count 0)
      word.within refl (word_begun octets count word)
      (sym (goes_on (take count octets) (get_or octets count 0) (kind (get_or octets count 0)) word.behind feed))

  -- a token without quotes, and the line feed behind it, are passed over
  pub word_ends : (octets : List ℕ) (count : ℕ) → IsWord octets count → is_feed (kind (get_or octets count 0)) ≡ true
      → PassedFirst (in_line s tokens) (entry_ended (in_line s (tokens ++ record { raw = take count octets; quoted = false } ∷ []))) octets (count + 1)
  unfolding passed
  word_ends octets count word feed =
      octet_more (in_line s tokens) (pushed (in_line s tokens) (take count octets) false) (entry_ended (in_line s (tokens ++ record { raw = take count octets; quoted = false } ∷ []))) octets count (get_or octets count 0)
      word.within refl (word_begun octets count word)
      (sym (ends_line (take count octets) (get_or octets count 0) (kind (get_or octets count 0)) feed))

  quote_closes : (raw : List ℕ) (octet : ℕ) → octet ≡ 34 → in_line s (tokens ++ record { raw = raw; quoted = true } ∷ []) ≡ passed (pushed (in_line s tokens) raw true) octet
  unfolding passed kind
  quote_closes raw octet is = rw is (sym (put raw true))

  quote_opens : passed (in_line s tokens) 34 ≡ with_mode (in_line s tokens) (InToken true Outside)
  unfolding passed kind
  quote_opens = refl

  quoted_kept : (raw : List ℕ) → pushed (in_line s tokens) raw true ≡ with_plain (with_mode (in_line s tokens) (InToken true Outside)) raw true
  quoted_kept [] = refl
  quoted_kept (octet ∷ others) = refl

  -- a token in quotes is passed over
  pub quoted_passed : (octets : List ℕ) (count : ℕ) → IsQuoted octets count
      → PassedFirst (in_line s tokens) (in_line s (tokens ++ record { raw = take (count - 1 - 1) (drop 1 octets); quoted = true } ∷ [])) octets count
  quoted_passed [] count never = absurd never
  quoted_passed (octet ∷ octets) count (is, (within, (total, plain, short, room, closes))) =
      let len : count - 1 - 1 ≡ within = omega (arith, total) in
      let open' = with_mode (in_line s tokens) (InToken true Outside) in
      let last = pushed (in_line s tokens) (take within octets) true in
      let kept = kept_in_token true open' last octets refl within (record { plain = plain; short = omega (arith, short); kept = quoted_kept (take within octets) }) in
      let rest = octet_more open' last (in_line s (tokens ++ record { raw = take within octets; quoted = true } ∷ [])) octets within (get_or octets within 0) room refl kept (quote_closes (take within octets) (get_or octets within 0) closes) in
      rw (len, is) (first_octet (in_line s tokens) (in_line s (tokens ++ record { raw = take within octets; quoted = true } ∷ [])) 34 octets (within + 1) count (omega (arith, total)) (rw quote_opens rest))

  line_feed : passed (in_line s tokens) 10 ≡ entry_ended (in_line s tokens)
  unfolding passed kind
  line_feed = refl

  comment_opens : passed (in_line s tokens) 59 ≡ with_mode (in_line s tokens) Comment
  unfolding passed kind
  comment_opens = refl

  comment_ends : (octet : ℕ) → not (is_feed (kind octet)) ≡ false → entry_ended (in_line s tokens) ≡ passed (with_mode (in_line s tokens) Comment) octet
  unfolding passed
  comment_ends octet h = by (kind octet) h where
    by : (k : OctetKind) → not (is_feed k) ≡ false → entry_ended (in_line s tokens) ≡ in_comment_by k (with_mode (in_line s tokens) Comment)
    by LineFeed h = refl
    by _ h = absurd cc

  -- the line's end is passed over, and a comment in front of it
  pub end_passed : (octets : List ℕ) (count : ℕ) → IsLineEnd octets count → PassedFirst (in_line s tokens) (entry_ended (in_line s tokens)) octets count
  end_passed [] count never = absurd never
  end_passed (octet ∷ octets) count (inl (is, one)) =
      rw is (first_octet (in_line s tokens) (entry_ended (in_line s tokens)) 10 octets 0 count one (record { within = omega arith; passed = sym line_feed }))
  end_passed (octet ∷ octets) count (inr (is, room, total)) =
      let len = prefix_len (λ octet. not (is_feed (kind octet))) octets in
      let there = with_mode (in_line s tokens) Comment in
      let rest = octet_more there there (entry_ended (in_line s tokens)) octets len (get_or octets len 0) room refl (comment_first there octets len refl refl)
      (comment_ends (get_or octets len 0) (prefix_len_stops (λ octet. not (is_feed (kind octet))) octets 0 room)) in
      rw is (first_octet (in_line s tokens) (entry_ended (in_line s tokens)) 59 octets (len + 1) count (omega (arith, total)) (rw comment_opens rest))

-- ---- the whole line

-- the state in which a line begins, whose entry has a space or a tab in front or not
abbrev begun : LexState → Bool → LexState
begun s blank = record s { position = record s.position { blank_start = blank } }

same_between : (k : OctetKind) (s : LexState) (octet : ℕ) → between_by k s octet ≡ between_by k (with_mode s Between) octet
same_between Plain s octet = refl
same_between Blank s octet = refl
same_between LineFeed s octet = refl
same_between Semicolon s octet = refl
same_between Open s octet = refl
same_between Close s octet = refl
same_between Quote s octet = refl
same_between Backslash s octet = refl

-- the first octet of a line is passed as within one
first_passed : (s : LexState) (octet : ℕ) → HoldsNothing s → passed s octet ≡ passed (in_line (begun s (is_space octet)) []) octet
unfolding passed
first_passed s octet h =
    let same : with_mode (begun s (is_space octet)) Between ≡ in_line (begun s (is_space octet)) [] = rw (h.tokens, h.raw, h.depth) refl in
    ap (λ mode. passed_by mode s octet) h.mode ∙ same_between (kind octet) (begun s (is_space octet)) octet ∙ ap (λ x. between_by (kind octet) x octet) same

-- the entry of the line
entry_made : (s : LexState) (blank : Bool) (tokens : List Token) (count : ℕ) → s.ready ≡ []
    → entry_ended (in_line (begun s blank) tokens) ≡ at_line (s.position.line + 1) (line_entries (record { octets = count; line = s.position.line; blank_start = blank }) tokens)
entry_made s blank [] count none = rw none refl
entry_made s blank (token ∷ others) count none = rw none refl

-- a line whose tokens were read is passed, and its entry taken
pub line_passed : (s : LexState) (tokens : List Token) (octets : List ℕ) (count : ℕ) → HoldsNothing s → 0 < count
    → ((s : LexState) → PassedFirst (in_line s []) (entry_ended (in_line s tokens)) octets count)
    → HasPassedLine s (at_line (s.position.line + 1) []) tokens octets (record { octets = count; line = s.position.line; blank_start = is_space (get_or octets 0 0) })
line_passed s tokens [] count h some p = absurd (let within = (p s).within in omega (arith, within))
line_passed s tokens (octet ∷ octets) zero h some p = absurd (omega arith)
line_passed s tokens (octet ∷ octets) (suc count) h some p =
    let line = p (begun s (is_space octet)) in
    record {
      some = some;
      ready = h.ready;
      new_is = refl;
      passed = record {
        within = line.within;
        passed = sym (entry_made s (is_space octet) tokens (suc count) h.ready) ∙ line.passed ∙ sym (ap (λ x. run x (take count octets)) (first_passed s octet h));
      };
    }
