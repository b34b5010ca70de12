-- The fields of a start of authority.
use Rattle.std.proofs.Common.{◌≡◌, List, [], ◌∷◌, length, get_or, arith}
use Rattle.master_lex.specs.declared.entry.Token.{Token}
use Rattle.rdata_forms.specs.Forms.{written}

-- seven tokens as they are written
pub seven : (tokens : List Token) (a b c d e f g : Token) → length tokens ≡ 7 → a ≡ get_or tokens 0 a → b ≡ get_or tokens 1 b → c ≡ get_or tokens 2 c → d ≡ get_or tokens 3 d → e ≡ get_or tokens 4 e → f ≡ get_or tokens 5 f → g ≡ get_or tokens 6 g → written tokens ≡ a.raw ∷ b.raw ∷ c.raw ∷ d.raw ∷ e.raw ∷ f.raw ∷ g.raw ∷ []
seven [] a b c d e f g n = absurd (omega arith)
seven (t0 ∷ []) a b c d e f g n = absurd (omega arith)
seven (t0 ∷ t1 ∷ []) a b c d e f g n = absurd (omega arith)
seven (t0 ∷ t1 ∷ t2 ∷ []) a b c d e f g n = absurd (omega arith)
seven (t0 ∷ t1 ∷ t2 ∷ t3 ∷ []) a b c d e f g n = absurd (omega arith)
seven (t0 ∷ t1 ∷ t2 ∷ t3 ∷ t4 ∷ []) a b c d e f g n = absurd (omega arith)
seven (t0 ∷ t1 ∷ t2 ∷ t3 ∷ t4 ∷ t5 ∷ []) a b c d e f g n = absurd (omega arith)
seven (t0 ∷ t1 ∷ t2 ∷ t3 ∷ t4 ∷ t5 ∷ t6 ∷ []) a b c d e f g n = λ e0 e1 e2 e3 e4 e5 e6. rw (e0, e1, e2, e3, e4, e5, e6)
seven (t0 ∷ t1 ∷ t2 ∷ t3 ∷ t4 ∷ t5 ∷ t6 ∷ t7 ∷ tokens) a b c d e f g n = absurd (omega arith)
