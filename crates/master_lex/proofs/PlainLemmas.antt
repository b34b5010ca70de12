-- Passing over plain octets at once is passing over them one after another.
use Rattle.std.proofs.Common.{◌≡◌, ℕ, ◌+◌, ◌-◌, ◌<◌, ◌≤◌, Bool, true, false, cond, List, [], ◌∷◌, ◌++◌, zero, suc, length, take, refl, sym, ap, ◌∙◌, append_assoc, arith}
use Rattle.std.specs.Prelude.{not, nat_le}
use Rattle.std.specs.List.{prefix_len}
use Rattle.std.proofs.lemmas.Bool.Decides.{nat_tests}
use Rattle.std.proofs.lemmas.List.{append-nil, length-append}
use Rattle.std.proofs.Math.Seq.{take-length}
use Rattle.std.proofs.lemmas.List.Sums.{prefix_len-le-length}
use Rattle.master_lex.specs.declared.fault.LexFault.{LexFault}
use Rattle.master_lex.specs.declared.octet.OctetKind.{OctetKind}
use Rattle.master_lex.specs.declared.octet.OctetKind.TheVariants.{Plain, Blank, LineFeed, Quote, Backslash}
use Rattle.master_lex.specs.declared.position.Mode.TheVariants.{Start, Between, Comment, InToken, Faulty}
use Rattle.master_lex.specs.declared.position.Escape.TheVariants.{Outside}
use Rattle.master_lex.specs.declared.scanner.TheConstants.{MOST}
use Rattle.master_lex.specs.Octets.{kind, is_space, is_blank, is_feed, stands}
use Rattle.master_lex.specs.States.{LexState, with_mode, kept, between_by, in_word_by, in_quotes_by, in_comment_by, passed_by, passed, run}
use Rattle.master_lex.specs.Plain.{with_plain, KeptPlain, PassedFirst}

-- the first octet passes, and those behind it
prefix_step : (b : Bool) (n m : ℕ) → n + 1 ≤ cond b (1 + m) 0 → (b ≡ true) × (n ≤ m)
prefix_step true n m h = (refl, omega arith)
prefix_step false n m h = absurd (omega arith)

plain_is : (k : OctetKind) → stands false k ≡ true → k ≡ Plain
plain_is Plain h = refl
plain_is _ h = absurd cc

-- white space is of this kind
pub blank_is : (k : OctetKind) → is_blank k ≡ true → k ≡ Blank
blank_is Blank h = refl
blank_is _ h = absurd cc

-- in a token whose octets so far are these
abbrev in_token_of : Bool → List ℕ → LexState → LexState
in_token_of q w s = record s { raw = w; position = record s.position { mode = InToken q Outside } }

-- an octet that stands for itself
itself : (q : Bool) (s : LexState) (w : List ℕ) (c : ℕ) → stands q (kind c) ≡ true → passed (in_token_of q w s) c ≡ kept (in_token_of q w s) (c ∷ []) q
unfolding passed
itself false s w c h = by (kind c) h where
  by : (k : OctetKind) → stands false k ≡ true → in_word_by k (in_token_of false w s) c ≡ kept (in_token_of false w s) (c ∷ []) false
  by Plain h = refl
  by _ h = absurd cc
itself true s w c h = by (kind c) h where
  by : (k : OctetKind) → stands true k ≡ true → in_quotes_by k (in_token_of true w s) c ≡ kept (in_token_of true w s) (c ∷ []) true
  by Quote h = absurd cc
  by LineFeed h = absurd cc
  by Backslash h = absurd cc
  by _ h = refl

keep_short : (s : LexState) (w : List ℕ) (c : ℕ) (q : Bool) → length w < MOST → kept (in_token_of q w s) (c ∷ []) q ≡ in_token_of q (w ++ c ∷ []) s
keep_short s w c q h = let e : nat_le 1 (MOST - length w) ≡ true = grind (arith, nat_tests) in rw e refl

-- plain octets in a token under way
token_run : (q : Bool) (s : LexState) (w octets : List ℕ) (n : ℕ) → n ≤ prefix_len (λ octet. stands q (kind octet)) octets → n ≤ MOST - length w
    → run (in_token_of q w s) (take n octets) ≡ in_token_of q (w ++ take n octets) s
token_run q s w octets zero h l = ap (λ x. in_token_of q x s) (sym (append-nil w))
token_run q s w [] (suc n) h l = ap (λ x. in_token_of q x s) (sym (append-nil w))
token_run q s w (c ∷ cs) (suc n) h l =
    let p = prefix_step (stands q (kind c)) n (prefix_len (λ octet. stands q (kind octet)) cs) (omega arith) in
    ap (λ x. run x (take n cs)) (itself q s w c p.0 ∙ keep_short s w c q (omega arith))
    ∙ token_run q s (w ++ c ∷ []) cs n p.1 (omega (arith, length-append w (c ∷ [])))
    ∙ ap (λ x. in_token_of q x s) (append_assoc w (c ∷ []) (take n cs))

plain_no_space : (c : ℕ) → kind c ≡ Plain → is_space c ≡ false
unfolding kind
plain_no_space c h = grind (arith, nat_tests)

-- a plain octet begins a token
first_kept : (s : LexState) (c : ℕ) → kind c ≡ Plain → length s.raw < MOST → between_by (kind c) s c ≡ in_token_of false (s.raw ++ c ∷ []) s
first_kept s c e h = let short : nat_le 1 (MOST - length s.raw) ≡ true = grind (arith, nat_tests) in ap (λ k. between_by k s c) e ∙ rw short refl

-- plain octets in front, the first of which is passed as between tokens
begun_run : (s t : LexState) (octets : List ℕ) (n : ℕ) → ((c : ℕ) → kind c ≡ Plain → passed s c ≡ between_by (kind c) t c)
    → suc n ≤ prefix_len (λ octet. stands false (kind octet)) octets → suc n ≤ MOST - length t.raw
    → run s (take (suc n) octets) ≡ with_plain t (take (suc n) octets) false
begun_run s t [] n first h l = absurd (omega arith)
begun_run s t (c ∷ cs) n first h l =
    let p = prefix_step (stands false (kind c)) n (prefix_len (λ octet. stands false (kind octet)) cs) (omega arith) in
    let e = plain_is (kind c) p.0 in
    ap (λ x. run x (take n cs)) (first c e ∙ first_kept t c e (omega arith))
    ∙ token_run false t (t.raw ++ c ∷ []) cs n p.1 (omega (arith, length-append t.raw (c ∷ [])))
    ∙ ap (λ x. in_token_of false x t) (append_assoc t.raw (c ∷ []) (take n cs))

passed_between : (s : LexState) (c : ℕ) → s.position.mode ≡ Between → passed s c ≡ between_by (kind c) s c
unfolding passed
passed_between s c m = ap (λ mode. passed_by mode s c) m

-- the state in which an entry begins without a space or a tab
abbrev pub without_blank : LexState → LexState
without_blank s = record s { position = record s.position { blank_start = false } }

passed_start : (s : LexState) (c : ℕ) → s.position.mode ≡ Start → kind c ≡ Plain → passed s c ≡ between_by (kind c) (without_blank s) c
unfolding passed
passed_start s c m e =
    ap (λ mode. passed_by mode s c) m ∙ ap (λ b. between_by (kind c) (record s { position = record s.position { blank_start = b } }) c) (plain_no_space c e)

between_run : (s : LexState) (octets : List ℕ) (n : ℕ) → s.position.mode ≡ Between → n ≤ prefix_len (λ octet. stands false (kind octet)) octets → n ≤ MOST - length s.raw
    → run s (take n octets) ≡ with_plain s (take n octets) false
between_run s octets zero m h l = refl
between_run s octets (suc n) m h l = begun_run s s octets n (λ c e. passed_between s c m) h l

-- plain octets with which an entry begins
start_run : (s : LexState) (octets : List ℕ) (n : ℕ) → s.position.mode ≡ Start → suc n ≤ prefix_len (λ octet. stands false (kind octet)) octets → suc n ≤ MOST - length s.raw
    → run s (take (suc n) octets) ≡ with_plain (without_blank s) (take (suc n) octets) false
start_run s octets n m h l = begun_run s (without_blank s) octets n (λ c e. passed_start s c m e) h l

in_token_run : (q : Bool) (s : LexState) (octets : List ℕ) (n : ℕ) → s.position.mode ≡ InToken q Outside → n ≤ prefix_len (λ octet. stands q (kind octet)) octets → n ≤ MOST - length s.raw
    → run s (take n octets) ≡ with_plain s (take n octets) q
in_token_run q s octets zero m h l = refl
in_token_run q s [] (suc n) m h l = refl
in_token_run q s (c ∷ cs) (suc n) m h l =
    ap (λ x. run (with_mode s x) (c ∷ take n cs)) m ∙ token_run q s s.raw (c ∷ cs) (suc n) h l

-- what is kept between tokens or in one was passed over
pub kept_between : (s s' : LexState) (octets : List ℕ) → s.position.mode ≡ Between → (count : ℕ) → KeptPlain s s' octets false count → PassedFirst s s' octets count
kept_between s s' octets m count k = record {
  within = omega (arith, k.plain, prefix_len-le-length (λ octet. stands false (kind octet)) octets);
  passed = k.kept ∙ sym (between_run s octets count m k.plain k.short);
}

-- plain octets that are kept in a token, quoted or not, were passed over
pub kept_in_token : (q : Bool) (s s' : LexState) (octets : List ℕ) → s.position.mode ≡ InToken q Outside → (count : ℕ) → KeptPlain s s' octets q count → PassedFirst s s' octets count
kept_in_token q s s' octets m count k = record {
  within = omega (arith, k.plain, prefix_len-le-length (λ octet. stands q (kind octet)) octets);
  passed = k.kept ∙ sym (in_token_run q s octets count m k.plain k.short);
}

-- a comment up to its line's end
comment_run : (s : LexState) (octets : List ℕ) (n : ℕ) → n ≤ prefix_len (λ octet. not (is_feed (kind octet))) octets → run (with_mode s Comment) (take n octets) ≡ with_mode s Comment
unfolding passed
comment_run s octets zero h = refl
comment_run s [] (suc n) h = refl
comment_run s (c ∷ cs) (suc n) h =
    let p = prefix_step (not (is_feed (kind c))) n (prefix_len (λ octet. not (is_feed (kind octet))) cs) (omega arith) in
    ap (λ x. run x (take n cs)) (same (kind c) p.0) ∙ comment_run s cs n p.1 where
      same : (k : OctetKind) → not (is_feed k) ≡ true → in_comment_by k (with_mode s Comment) ≡ with_mode s Comment
      same LineFeed h = absurd cc
      same _ h = refl

-- the octets in front of the line feed that ends a comment are passed over, and change nothing
pub comment_first : (s : LexState) (octets : List ℕ) (count : ℕ) → s.position.mode ≡ Comment → count ≡ prefix_len (λ octet. not (is_feed (kind octet))) octets → PassedFirst s s octets count
comment_first s octets count m e =
    let same = ap (with_mode s) m in
    record {
      within = omega (arith, prefix_len-le-length (λ octet. not (is_feed (kind octet))) octets);
      passed = sym (ap (λ (x : LexState). run x (take count octets)) same ∙ comment_run s octets count (omega arith) ∙ sym same);
    }

-- white space between tokens
blank_run : (s : LexState) (octets : List ℕ) (n : ℕ) → s.position.mode ≡ Between → n ≤ prefix_len (λ octet. is_blank (kind octet)) octets → run s (take n octets) ≡ s
blank_run s octets zero m h = refl
blank_run s [] (suc n) m h = refl
blank_run s (c ∷ cs) (suc n) m h =
    let p = prefix_step (is_blank (kind c)) n (prefix_len (λ octet. is_blank (kind octet)) cs) (omega arith) in
    let e = passed_between s c m ∙ ap (λ k. between_by k s c) (blank_is (kind c) p.0) ∙ sym (ap (with_mode s) m) in
    ap (λ x. run x (take n cs)) e ∙ blank_run s cs n m p.1

-- the white space in front is passed over between tokens, and changes nothing
pub blank_first : (s : LexState) (octets : List ℕ) (count : ℕ) → s.position.mode ≡ Between → count ≡ prefix_len (λ octet. is_blank (kind octet)) octets → PassedFirst s s octets count
blank_first s octets count m e = record {
  within = omega (arith, prefix_len-le-length (λ octet. is_blank (kind octet)) octets);
  passed = sym (blank_run s octets count m (omega arith));
}

-- behind a fault nothing changes
run_faulty : (fault : LexFault) (s : LexState) (rest : List ℕ) → run (with_mode s (Faulty fault)) rest ≡ with_mode s (Faulty fault)
unfolding passed
run_faulty fault s [] = refl
run_faulty fault s (c ∷ cs) = run_faulty fault s cs

-- behind a fault all octets are passed over
pub faulty_first : (s : LexState) (octets : List ℕ) (fault : LexFault) → s.position.mode ≡ Faulty fault → PassedFirst s s octets (length octets)
faulty_first s octets fault m =
    let same = ap (with_mode s) m in
    record {
      within = omega arith;
      passed = sym (ap (run s) (take-length octets) ∙ ap (λ (x : LexState). run x octets) same ∙ run_faulty fault s octets ∙ sym same);
    }

-- what is kept of an entry that begins was passed over, with no space in front
pub kept_start : (s s' : LexState) (octets : List ℕ) (count : ℕ) → s.position.mode ≡ Start → 0 < count → KeptPlain s s' octets false count
    → PassedFirst s (without_blank s') octets count
kept_start s s' octets zero m some k = absurd (omega arith)
kept_start s s' [] (suc n) m some k = absurd (let p = k.plain in omega arith)
kept_start s s' (c ∷ cs) (suc n) m some k = record {
  within = omega (arith, k.plain, prefix_len-le-length (λ octet. stands false (kind octet)) (c ∷ cs));
  passed = ap without_blank k.kept ∙ sym (start_run s (c ∷ cs) n m k.plain k.short);
}
