-- Names with a label below others.
use Rattle.std.proofs.Common.{◌≡◌, ◌∙◌, ℕ, List, [], ◌∷◌, ◌++◌, length, take, drop, get_or, sym, refl, ap, arith}
use Rattle.std.proofs.lemmas.List.{take_at, drop_at, length-append}
use Rattle.dns_data.specs.Name.{Labels}

-- equal names have the same labels above their last one
pub same_above : (a b : Labels) (x y : List ℕ) → a ++ x ∷ [] ≡ b ++ y ∷ [] → a ≡ b
same_above a b x y e =
    let sizes : length a ≡ length b = omega (arith, ap length e, length-append a (x ∷ []), length-append b (y ∷ [])) in
    sym (take_at a (x ∷ []) (length a) refl) ∙ ap (take (length a)) e ∙ take_at b (y ∷ []) (length a) (sym sizes)

-- names that are equal have the same last label
pub same_last : (a b : Labels) (x y : List ℕ) → a ++ x ∷ [] ≡ b ++ y ∷ [] → x ≡ y
same_last a b x y e =
    let sizes : length a ≡ length b = omega (arith, ap length e, length-append a (x ∷ []), length-append b (y ∷ [])) in
    ap (λ (l : Labels). get_or l 0 [])
    (sym (drop_at a (x ∷ []) (length a) refl) ∙ ap (drop (length a)) e ∙ drop_at b (y ∷ []) (length a) (sym sizes))
