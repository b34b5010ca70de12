-- What the octets of a text make of what is held is what the text holds.
use Rattle.std.proofs.Common.{◌≡◌, ℕ, ◌<◌, Bool, true, false, List, [], ◌∷◌, ◌++◌, length, refl, sym, ap, append_assoc, arith}
use Rattle.std.specs.Prelude.{◌||◌, ◌==◌, nat_lt, if◌then◌else◌}
use Rattle.std.proofs.lemmas.List.{length-append}
use Rattle.std.proofs.lemmas.Bool.{lt-ltb}
use Rattle.master_lex.specs.declared.fault.LexKind.TheVariants.{TokenTooLong}
use Rattle.master_lex.specs.declared.octet.OctetKind.{OctetKind}
use Rattle.master_lex.specs.declared.octet.OctetKind.TheVariants.{Plain, Blank, LineFeed, Semicolon, Open, Close, Quote, Backslash}
use Rattle.master_lex.specs.declared.scanner.TheConstants.{MOST}
use Rattle.master_lex.specs.Octets.{kind}
use Rattle.master_lex.specs.Pieces.{Piece, Skipped, LineEnd, Opening, Closing, Written, before, pieces, comment, in_quotes, after_backslash}
use Rattle.master_lex.specs.Contents.{EntrySoFar, fails, contents_from}

-- ---- the pieces of a text by what its first octet means

-- the pieces of a text whose first octet is of this kind
abbrev pub by_kind : OctetKind → ℕ → List ℕ → List Piece
by_kind Blank octet text = Skipped octet ∷ pieces text
by_kind LineFeed octet text = LineEnd ∷ pieces text
by_kind Semicolon octet text = Skipped octet ∷ comment text
by_kind Open octet text = Opening ∷ pieces text
by_kind Close octet text = Closing ∷ pieces text
by_kind Quote octet text = before true [] (in_quotes text)
by_kind Backslash octet text = after_backslash false text
by_kind Plain octet text = before false (octet ∷ []) (pieces text)

same_by : (octet : ℕ) (text : List ℕ) (blank feed semicolon open' close quote backslash : Bool)
    → (if blank then Skipped octet ∷ pieces text
    else (if feed then LineEnd ∷ pieces text
    else (if semicolon then Skipped octet ∷ comment text
    else (if open' then Opening ∷ pieces text
    else (if close then Closing ∷ pieces text
    else (if quote then before true [] (in_quotes text)
    else (if backslash then after_backslash false text
    else before false (octet ∷ []) (pieces text))))))))
    ≡ by_kind (if blank then Blank
    else if feed then LineFeed
    else if semicolon then Semicolon
    else if open' then Open
    else if close then Close
    else if quote then Quote
    else if backslash then Backslash
    else Plain) octet text
same_by octet text true _ _ _ _ _ _ = refl
same_by octet text false true _ _ _ _ _ = refl
same_by octet text false false true _ _ _ _ = refl
same_by octet text false false false true _ _ _ = refl
same_by octet text false false false false true _ _ = refl
same_by octet text false false false false false true _ = refl
same_by octet text false false false false false false true = refl
same_by octet text false false false false false false false = refl

-- the pieces of a text are those that the kind of its first octet tells
pub pieces_by_kind : (octet : ℕ) (text : List ℕ) → pieces (octet ∷ text) ≡ by_kind (kind octet) octet text
unfolding kind
pieces_by_kind octet text =
    same_by octet text (octet == 32 || octet == 9 || octet == 13) (octet == 10) (octet == 59) (octet == 40) (octet == 41) (octet == 34) (octet == 92)

-- ---- octets of a token, and more of it

-- octets of a token in front of more of it are all of them in front of what is behind
pub before_before : (quoted : Bool) (octets more : List ℕ) (rest : List Piece) → before quoted octets (before quoted more rest) ≡ before quoted (octets ++ more) rest
before_before false octets more (Written false others ∷ rest) = ap (λ (w : List ℕ). Written false w ∷ rest) (sym (append_assoc octets more others))
before_before true octets more (Written true others ∷ rest) = ap (λ (w : List ℕ). Written true w ∷ rest) (sym (append_assoc octets more others))
before_before false octets more _ = refl
before_before true octets more _ = refl

over : (w more : List ℕ) → MOST < length w → nat_lt 131072 (length (w ++ more)) ≡ true
over w more h = lt-ltb 131072 (length (w ++ more)) (omega (arith, length-append w more))

-- a token that is too long is a fault, whatever comes behind it
pub too_long : (place : EntrySoFar) (quoted : Bool) (w : List ℕ) (rest : List Piece) → MOST < length w → contents_from place (before quoted w rest) ≡ fails place.line TokenTooLong
too_long place false w (Written false more ∷ rest) h = rw (over w more h) refl
too_long place true w (Written true more ∷ rest) h = rw (over w more h) refl
too_long place false w _ h = rw (lt-ltb 131072 (length w) h) refl
too_long place true w _ h = rw (lt-ltb 131072 (length w) h) refl
