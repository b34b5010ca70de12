-- The octets of a text's pieces in a row are the text, unless it has a fault.
use Rattle.std.proofs.Common.{◌≡◌, ℕ, Bool, true, false, List, [], ◌∷◌, ◌++◌, refl, ap, ◌∙◌, append_assoc, eqb-true}
use Rattle.std.specs.Prelude.{◌||◌, ◌==◌, nat_eq, if◌then◌else◌}
use Rattle.std.specs.List.{flat_map, list_any}
use Rattle.dns_data.specs.Octet.{is_digit}
use Rattle.master_lex.specs.declared.fault.LexKind.TheVariants.{OpenQuote}
use Rattle.master_lex.specs.Pieces.{Piece, Skipped, LineEnd, Opening, Closing, Written, Broken, before, bad_escape, is_code, pieces, comment, in_quotes, after_backslash, after_digit, after_two_digits, written_octets, is_broken}

abbrev all : List Piece → List ℕ
all xs = flat_map written_octets xs

-- no piece is a fault
abbrev Sound : List Piece → Type 0
Sound xs = list_any is_broken xs ≡ false

-- the pieces spell the text, or begin with a token in quotes that with the rest spells what is behind its first quote
abbrev Spells : Bool → List Piece → List ℕ → Type 0
Spells false xs text = all xs ≡ text
Spells true xs text = (octets : List ℕ) × ((rest : List Piece) × ((xs ≡ Written true octets ∷ rest) × (octets ++ 34 ∷ all rest ≡ text)))

before_sound : (quoted : Bool) (w : List ℕ) (xs : List Piece) → Sound (before quoted w xs) → Sound xs
before_sound false w (Written false more ∷ rest) h = h
before_sound true w (Written true more ∷ rest) h = h
before_sound false w _ h = h
before_sound true w _ h = h

before_false : (w : List ℕ) (xs : List Piece) → all (before false w xs) ≡ w ++ all xs
before_false w (Written false more ∷ rest) = append_assoc w more (all rest)
before_false w _ = refl

before_spells : (quoted : Bool) (w text : List ℕ) (xs : List Piece) → Spells quoted xs text → Spells quoted (before quoted w xs) (w ++ text)
before_spells false w text xs h = before_false w xs ∙ ap (λ (t : List ℕ). w ++ t) h
before_spells true w text xs (octets, (rest, (e, is))) =
    (w ++ octets, (rest, (ap (before true w) e, append_assoc w octets (34 ∷ all rest) ∙ ap (λ (t : List ℕ). w ++ t) is)))

-- the pieces of what is left of a text, in a token in quotes or outside of one
abbrev pub rest_of : Bool → List ℕ → List Piece
rest_of quoted text = if quoted then in_quotes text else pieces text

-- what a text's pieces spell where none is a fault
abbrev Spelling : Bool → List Piece → List ℕ → Type 0
Spelling quoted xs text = Sound xs → Spells quoted xs text

by_quotes : (quoted : Bool) (text : List ℕ) → Spelling true (in_quotes text) text → Spelling false (pieces text) text → Spelling quoted (rest_of quoted text) text
by_quotes true text h k = h
by_quotes false text h k = k

no_spelling : (quoted : Bool) (text : List ℕ) → Spelling quoted (bad_escape quoted) text
no_spelling quoted text h = absurd cc

escape_spells : (quoted b : Bool) (w text : List ℕ) → Spelling quoted (rest_of quoted text) text → Spelling quoted (if b then before quoted w (rest_of quoted text) else bad_escape quoted) (w ++ text)
escape_spells quoted true w text h sound = before_spells quoted w text (rest_of quoted text) (h (before_sound quoted w (rest_of quoted text) sound))
escape_spells quoted false w text h sound = absurd cc

backslash_spells : (quoted : Bool) (octet : ℕ) (text : List ℕ) → Spelling quoted (after_digit quoted octet text) (92 ∷ octet ∷ text) → Spelling quoted (rest_of quoted text) text
    → Spelling quoted (after_backslash quoted (octet ∷ text)) (92 ∷ octet ∷ text)
backslash_spells quoted octet text digits rest = by (is_digit octet) (nat_eq octet 10) where
  by : (digit feed : Bool) → Spelling quoted (if digit then after_digit quoted octet text else (if feed then bad_escape quoted else before quoted (92 ∷ octet ∷ []) (rest_of quoted text))) (92 ∷ octet ∷ text)
  by true feed = digits
  by false true = no_spelling quoted (92 ∷ octet ∷ text)
  by false false = escape_spells quoted true (92 ∷ octet ∷ []) text rest

comment_spells : (octet : ℕ) (text : List ℕ) → Spelling false (pieces text) text → Spelling false (comment text) text → Spelling false (comment (octet ∷ text)) (octet ∷ text)
comment_spells octet text lines more = by (nat_eq octet 10) refl where
  by : (feed : Bool) → nat_eq octet 10 ≡ feed → Spelling false (if feed then LineEnd ∷ pieces text else Skipped octet ∷ comment text) (octet ∷ text)
  by true is sound = rw (eqb-true octet 10 is) (ap (λ (t : List ℕ). 10 ∷ t) (lines sound))
  by false is sound = ap (λ (t : List ℕ). octet ∷ t) (more sound)

quotes_spell : (octet : ℕ) (text : List ℕ) → Spelling false (pieces text) text → Spelling true (in_quotes text) text → Spelling true (after_backslash true text) (92 ∷ text) → Spelling true (in_quotes (octet ∷ text)) (octet ∷ text)
quotes_spell octet text lines more escape = by (nat_eq octet 34) (nat_eq octet 10) (nat_eq octet 92) refl refl where
  by : (quote feed backslash : Bool) → nat_eq octet 34 ≡ quote → nat_eq octet 92 ≡ backslash
      → Spelling true (if quote then Written true [] ∷ pieces text else (if feed then Broken OpenQuote ∷ [] else (if backslash then after_backslash true text else before true (octet ∷ []) (in_quotes text)))) (octet ∷ text)
  by true feed backslash is at sound = ([], (pieces text, (refl, rw (eqb-true octet 34 is) (ap (λ (t : List ℕ). 34 ∷ t) (lines sound)))))
  by false true backslash is at sound = absurd cc
  by false false true is at sound = rw (eqb-true octet 92 at) (escape sound)
  by false false false is at sound = before_spells true (octet ∷ []) text (in_quotes text) (more (before_sound true (octet ∷ []) (in_quotes text) sound))

-- behind an opening quote
opened_spells : (text : List ℕ) → Spelling true (in_quotes text) text → Spelling false (before true [] (in_quotes text)) (34 ∷ text)
opened_spells text h sound =
    let s = h (before_sound true [] (in_quotes text) sound) in
    ap (λ xs. all (before true [] xs)) s.1.1.0 ∙ ap (λ (t : List ℕ). 34 ∷ t) (append_assoc s.0 (34 ∷ []) (all s.1.0) ∙ s.1.1.1)

pieces_spell : (octet : ℕ) (text : List ℕ) → Spelling false (pieces text) text → Spelling false (comment text) text → Spelling true (in_quotes text) text → Spelling false (after_backslash false text) (92 ∷ text)
    → Spelling false (pieces (octet ∷ text)) (octet ∷ text)
pieces_spell octet text more comments quotes escape =
    by (octet == 32 || octet == 9 || octet == 13) (nat_eq octet 10) (nat_eq octet 59) (nat_eq octet 40) (nat_eq octet 41) (nat_eq octet 34) (nat_eq octet 92) refl refl refl refl refl where
      by : (blank feed semicolon open' close quote backslash : Bool) → nat_eq octet 10 ≡ feed → nat_eq octet 40 ≡ open' → nat_eq octet 41 ≡ close → nat_eq octet 34 ≡ quote → nat_eq octet 92 ≡ backslash
          → Spelling false (if blank then Skipped octet ∷ pieces text
          else (if feed then LineEnd ∷ pieces text
          else (if semicolon then Skipped octet ∷ comment text
          else (if open' then Opening ∷ pieces text
          else (if close then Closing ∷ pieces text
          else (if quote then before true [] (in_quotes text)
          else (if backslash then after_backslash false text
          else before false (octet ∷ []) (pieces text)))))))) (octet ∷ text)
      by true _ _ _ _ _ _ f o c q b sound = ap (λ (t : List ℕ). octet ∷ t) (more sound)
      by false true _ _ _ _ _ f o c q b sound = rw (eqb-true octet 10 f) (ap (λ (t : List ℕ). 10 ∷ t) (more sound))
      by false false true _ _ _ _ f o c q b sound = ap (λ (t : List ℕ). octet ∷ t) (comments sound)
      by false false false true _ _ _ f o c q b sound = rw (eqb-true octet 40 o) (ap (λ (t : List ℕ). 40 ∷ t) (more sound))
      by false false false false true _ _ f o c q b sound = rw (eqb-true octet 41 c) (ap (λ (t : List ℕ). 41 ∷ t) (more sound))
      by false false false false false true _ f o c q b sound = rw (eqb-true octet 34 q) (opened_spells text quotes sound)
      by false false false false false false true f o c q b sound = rw (eqb-true octet 92 b) (escape sound)
      by false false false false false false false f o c q b sound = before_spells false (octet ∷ []) text (pieces text) (more (before_sound false (octet ∷ []) (pieces text) sound))

mutual
  -- where no piece of a text is a fault, its pieces spell the text
  pub pieces_spelled : (text : List ℕ) → Spelling false (pieces text) text
  pieces_spelled [] = λ sound. refl
  pieces_spelled (octet ∷ text) = pieces_spell octet text (pieces_spelled text) (comment_spelled text) (quotes_spelled text) (escaped_spelled false text)

  comment_spelled : (text : List ℕ) → Spelling false (comment text) text
  comment_spelled [] = λ sound. refl
  comment_spelled (octet ∷ text) = comment_spells octet text (pieces_spelled text) (comment_spelled text)

  quotes_spelled : (text : List ℕ) → Spelling true (in_quotes text) text
  quotes_spelled [] = λ sound. absurd cc
  quotes_spelled (octet ∷ text) = quotes_spell octet text (pieces_spelled text) (quotes_spelled text) (escaped_spelled true text)

  escaped_spelled : (quoted : Bool) (text : List ℕ) → Spelling quoted (after_backslash quoted text) (92 ∷ text)
  escaped_spelled quoted [] = no_spelling quoted (92 ∷ [])
  escaped_spelled quoted (octet ∷ text) = backslash_spells quoted octet text (second_spelled quoted octet text) (by_quotes quoted text (quotes_spelled text) (pieces_spelled text))

  second_spelled : (quoted : Bool) (first : ℕ) (text : List ℕ) → Spelling quoted (after_digit quoted first text) (92 ∷ first ∷ text)
  second_spelled quoted first [] = no_spelling quoted (92 ∷ first ∷ [])
  second_spelled quoted first (second ∷ text) = third_spelled quoted first second text

  third_spelled : (quoted : Bool) (first second : ℕ) (text : List ℕ) → Spelling quoted (after_two_digits quoted first second text) (92 ∷ first ∷ second ∷ text)
  third_spelled quoted first second [] = no_spelling quoted (92 ∷ first ∷ second ∷ [])
  third_spelled quoted first second (third ∷ text) =
      escape_spells quoted (is_code first second third) (92 ∷ first ∷ second ∷ third ∷ []) text (by_quotes quoted text (quotes_spelled text) (pieces_spelled text))
