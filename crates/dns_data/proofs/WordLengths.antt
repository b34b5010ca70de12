-- Words of different lengths.
use Rattle.std.proofs.Common.{◌≡◌, ℕ, ◌&&◌, false, List, [], ◌∷◌, length, nat_eq, refl, ap, ◌∙◌, arith}
use Rattle.std.proofs.Math.Bool.{and-false}
use Rattle.dns_data.specs.Octet.{folded, is_word}

-- octets with another length than a word aren't the word
pub other_length : (word octets : List ℕ) → (length word ≡ length octets → ⊥) → is_word word octets ≡ false
other_length [] [] h = absurd (h refl)
other_length [] (y ∷ octets) h = refl
other_length (x ∷ word) [] h = refl
other_length (x ∷ word) (y ∷ octets) h =
    ap (λ b. nat_eq (folded x) (folded y) && b) (other_length word octets (λ e. h (omega (arith, e)))) ∙ and-false (nat_eq (folded x) (folded y))
