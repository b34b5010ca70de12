-- The octets of a text's pieces up to a fault are a front of the text.
use Rattle.std.proofs.Common.{◌≡◌, ◌⊎◌, ℕ, Bool, true, false, List, [], ◌∷◌, ◌++◌, refl, ap, ◌∙◌, inl, inr, append_assoc, append-nil, eqb-true}
use Rattle.std.specs.Prelude.{◌||◌, ◌==◌, nat_eq, if◌then◌else◌}
use Rattle.dns_data.specs.Octet.{is_digit}
use Rattle.master_lex.specs.declared.fault.LexKind.TheVariants.{OpenQuote}
use Rattle.master_lex.specs.Pieces.{Piece, Skipped, LineEnd, Opening, Closing, Written, Broken, before, bad_escape, is_code, pieces, comment, in_quotes, after_backslash, after_digit, after_two_digits, begins_broken, written_front}
use Rattle.master_lex.proofs.Spelled.{rest_of}

-- what stands behind the octets of a token in quotes
abbrev behind_token : List Piece → List ℕ
behind_token rest = if begins_broken rest then [] else 34 ∷ written_front rest

-- the pieces spell a front of the text; or, behind an opening quote, begin with a fault, or with a token in quotes whose
-- octets with what follows are a front of it
abbrev Fronts : Bool → List Piece → List ℕ → Type 0
Fronts false xs text = (rest : List ℕ) × (written_front xs ++ rest ≡ text)
Fronts true xs text =
    (begins_broken xs ≡ true)
    ⊎ ((octets : List ℕ) × ((later : List Piece) × ((xs ≡ Written true octets ∷ later) × ((rest : List ℕ) × ((octets ++ behind_token later) ++ rest ≡ text)))))

before_false : (w : List ℕ) (xs : List Piece) → written_front (before false w xs) ≡ w ++ written_front xs
before_false w (Written false more ∷ rest) = append_assoc w more (written_front rest)
before_false w _ = refl

-- a token of these octets that a fault ends
before_fault : (w text : List ℕ) (xs : List Piece) → begins_broken xs ≡ true → Fronts true (before true w xs) (w ++ text)
before_fault w text (Broken kind ∷ xs) h =
    inr (w, (Broken kind ∷ xs, (refl, (text, ap (λ (t : List ℕ). t ++ text) (append-nil w)))))
before_fault w text [] h = absurd cc
before_fault w text (Skipped octet ∷ xs) h = absurd cc
before_fault w text (LineEnd ∷ xs) h = absurd cc
before_fault w text (Opening ∷ xs) h = absurd cc
before_fault w text (Closing ∷ xs) h = absurd cc
before_fault w text (Written quoted octets ∷ xs) h = absurd cc

before_fronts : (quoted : Bool) (w text : List ℕ) (xs : List Piece) → Fronts quoted xs text → Fronts quoted (before quoted w xs) (w ++ text)
before_fronts false w text xs (rest, is) =
    (rest, ap (λ (t : List ℕ). t ++ rest) (before_false w xs) ∙ append_assoc w (written_front xs) rest ∙ ap (λ (t : List ℕ). w ++ t) is)
before_fronts true w text xs (inl broken) = before_fault w text xs broken
before_fronts true w text xs (inr (octets, (later, (e, (rest, is))))) =
    inr (
      w ++ octets,
      (
        later,
        (
          ap (before true w) e,
          (
            rest,
            ap (λ (t : List ℕ). t ++ rest) (append_assoc w octets (behind_token later))
                ∙ append_assoc w (octets ++ behind_token later) rest
                ∙ ap (λ (t : List ℕ). w ++ t) is,
          ),
        ),
      ),
    )

by_quotes : (quoted : Bool) (text : List ℕ) → Fronts true (in_quotes text) text → Fronts false (pieces text) text → Fronts quoted (rest_of quoted text) text
by_quotes true text h k = h
by_quotes false text h k = k

-- a backslash that spells nothing is an octet of its token
bad_front : (quoted : Bool) (text : List ℕ) → Fronts quoted (bad_escape quoted) (92 ∷ text)
bad_front true text = inr (92 ∷ [], (_, (refl, (text, refl))))
bad_front false text = (text, refl)

escape_front : (quoted b : Bool) (w text : List ℕ) → Fronts quoted (rest_of quoted text) text
    → Fronts quoted (if b then before quoted (92 ∷ w) (rest_of quoted text) else bad_escape quoted) (92 ∷ (w ++ text))
escape_front quoted true w text h = before_fronts quoted (92 ∷ w) text (rest_of quoted text) h
escape_front quoted false w text h = bad_front quoted (w ++ text)

backslash_front : (quoted : Bool) (octet : ℕ) (text : List ℕ) → Fronts quoted (after_digit quoted octet text) (92 ∷ octet ∷ text) → Fronts quoted (rest_of quoted text) text
    → Fronts quoted (after_backslash quoted (octet ∷ text)) (92 ∷ octet ∷ text)
backslash_front quoted octet text digits rest = by (is_digit octet) (nat_eq octet 10) where
  by : (digit feed : Bool) → Fronts quoted (if digit then after_digit quoted octet text else (if feed then bad_escape quoted else before quoted (92 ∷ octet ∷ []) (rest_of quoted text))) (92 ∷ octet ∷ text)
  by true feed = digits
  by false true = bad_front quoted (octet ∷ text)
  by false false = escape_front quoted true (octet ∷ []) text rest

comment_front_by : (octet : ℕ) (text : List ℕ) → Fronts false (pieces text) text → Fronts false (comment text) text → Fronts false (comment (octet ∷ text)) (octet ∷ text)
comment_front_by octet text lines more = by (nat_eq octet 10) refl where
  by : (feed : Bool) → nat_eq octet 10 ≡ feed → Fronts false (if feed then LineEnd ∷ pieces text else Skipped octet ∷ comment text) (octet ∷ text)
  by true is = rw (eqb-true octet 10 is) (lines.0, ap (λ (t : List ℕ). 10 ∷ t) lines.1)
  by false is = (more.0, ap (λ (t : List ℕ). octet ∷ t) more.1)

-- a closing quote, and what follows it
closed_front : (xs : List Piece) (text : List ℕ) → Fronts false xs text → Fronts true (Written true [] ∷ xs) (34 ∷ text)
closed_front xs text h = inr ([], (xs, (refl, by (begins_broken xs)))) where
  by : (broken : Bool) → (rest : List ℕ) × (([] ++ (if broken then [] else 34 ∷ written_front xs)) ++ rest ≡ 34 ∷ text)
  by true = (34 ∷ text, refl)
  by false = (h.0, ap (λ (t : List ℕ). 34 ∷ t) h.1)

quotes_front_by : (octet : ℕ) (text : List ℕ) → Fronts false (pieces text) text → Fronts true (in_quotes text) text → Fronts true (after_backslash true text) (92 ∷ text) → Fronts true (in_quotes (octet ∷ text)) (octet ∷ text)
quotes_front_by octet text lines more escape = by (nat_eq octet 34) (nat_eq octet 10) (nat_eq octet 92) refl refl where
  by : (quote feed backslash : Bool) → nat_eq octet 34 ≡ quote → nat_eq octet 92 ≡ backslash
      → Fronts true (if quote then Written true [] ∷ pieces text else (if feed then Broken OpenQuote ∷ [] else (if backslash then after_backslash true text else before true (octet ∷ []) (in_quotes text)))) (octet ∷ text)
  by true feed backslash is at = rw (eqb-true octet 34 is) (closed_front (pieces text) text lines)
  by false true backslash is at = inl refl
  by false false true is at = rw (eqb-true octet 92 at) escape
  by false false false is at = before_fronts true (octet ∷ []) text (in_quotes text) more

-- behind an opening quote
opened_front : (xs : List Piece) (text : List ℕ) → Fronts true xs text → Fronts false (before true [] xs) (34 ∷ text)
opened_front (Broken kind ∷ xs) text (inl broken) = (text, refl)
opened_front [] text (inl broken) = absurd cc
opened_front (Skipped octet ∷ xs) text (inl broken) = absurd cc
opened_front (LineEnd ∷ xs) text (inl broken) = absurd cc
opened_front (Opening ∷ xs) text (inl broken) = absurd cc
opened_front (Closing ∷ xs) text (inl broken) = absurd cc
opened_front (Written quoted octets ∷ xs) text (inl broken) = absurd cc
opened_front xs text (inr (octets, (later, (e, (rest, is))))) =
    (rest, ap (λ ys. written_front (before true [] ys) ++ rest) e ∙ ap (λ (t : List ℕ). 34 ∷ t) is)

pieces_front_by : (octet : ℕ) (text : List ℕ) → Fronts false (pieces text) text → Fronts false (comment text) text → Fronts true (in_quotes text) text → Fronts false (after_backslash false text) (92 ∷ text)
    → Fronts false (pieces (octet ∷ text)) (octet ∷ text)
pieces_front_by octet text more comments quotes escape =
    by (octet == 32 || octet == 9 || octet == 13) (nat_eq octet 10) (nat_eq octet 59) (nat_eq octet 40) (nat_eq octet 41) (nat_eq octet 34) (nat_eq octet 92) refl refl refl refl refl where
      by : (blank feed semicolon open' close quote backslash : Bool) → nat_eq octet 10 ≡ feed → nat_eq octet 40 ≡ open' → nat_eq octet 41 ≡ close → nat_eq octet 34 ≡ quote → nat_eq octet 92 ≡ backslash
          → Fronts false (if blank then Skipped octet ∷ pieces text
          else (if feed then LineEnd ∷ pieces text
          else (if semicolon then Skipped octet ∷ comment text
          else (if open' then Opening ∷ pieces text
          else (if close then Closing ∷ pieces text
          else (if quote then before true [] (in_quotes text)
          else (if backslash then after_backslash false text
          else before false (octet ∷ []) (pieces text)))))))) (octet ∷ text)
      by true _ _ _ _ _ _ f o c q b = (more.0, ap (λ (t : List ℕ). octet ∷ t) more.1)
      by false true _ _ _ _ _ f o c q b = rw (eqb-true octet 10 f) (more.0, ap (λ (t : List ℕ). 10 ∷ t) more.1)
      by false false true _ _ _ _ f o c q b = (comments.0, ap (λ (t : List ℕ). octet ∷ t) comments.1)
      by false false false true _ _ _ f o c q b = rw (eqb-true octet 40 o) (more.0, ap (λ (t : List ℕ). 40 ∷ t) more.1)
      by false false false false true _ _ f o c q b = rw (eqb-true octet 41 c) (more.0, ap (λ (t : List ℕ). 41 ∷ t) more.1)
      by false false false false false true _ f o c q b = rw (eqb-true octet 34 q) (opened_front (in_quotes text) text quotes)
      by false false false false false false true f o c q b = rw (eqb-true octet 92 b) escape
      by false false false false false false false f o c q b = before_fronts false (octet ∷ []) text (pieces text) more

mutual
  -- the pieces of a text up to a fault spell a front of the text
  pub pieces_front : (text : List ℕ) → Fronts false (pieces text) text
  pieces_front [] = ([], refl)
  pieces_front (octet ∷ text) = pieces_front_by octet text (pieces_front text) (comment_front text) (quotes_front text) (escaped_front false text)

  comment_front : (text : List ℕ) → Fronts false (comment text) text
  comment_front [] = ([], refl)
  comment_front (octet ∷ text) = comment_front_by octet text (pieces_front text) (comment_front text)

  quotes_front : (text : List ℕ) → Fronts true (in_quotes text) text
  quotes_front [] = inl refl
  quotes_front (octet ∷ text) = quotes_front_by octet text (pieces_front text) (quotes_front text) (escaped_front true text)

  escaped_front : (quoted : Bool) (text : List ℕ) → Fronts quoted (after_backslash quoted text) (92 ∷ text)
  escaped_front quoted [] = bad_front quoted []
  escaped_front quoted (octet ∷ text) = backslash_front quoted octet text (second_front quoted octet text) (by_quotes quoted text (quotes_front text) (pieces_front text))

  second_front : (quoted : Bool) (first : ℕ) (text : List ℕ) → Fronts quoted (after_digit quoted first text) (92 ∷ first ∷ text)
  second_front quoted first [] = bad_front quoted (first ∷ [])
  second_front quoted first (second ∷ text) = third_front quoted first second text

  third_front : (quoted : Bool) (first second : ℕ) (text : List ℕ) → Fronts quoted (after_two_digits quoted first second text) (92 ∷ first ∷ second ∷ text)
  third_front quoted first second [] = bad_front quoted (first ∷ second ∷ [])
  third_front quoted first second (third ∷ text) =
      escape_front quoted (is_code first second third) (first ∷ second ∷ third ∷ []) text (by_quotes quoted text (quotes_front text) (pieces_front text))
