-- The comma behind the last piece is taken off.
use Rattle.std.proofs.Common.{◌≡◌, ◌-◌, ℕ, List, [], ◌∷◌, ◌++◌, length, take, ap, refl}
use Rattle.report_json.specs.Pieces.{without_comma}

-- the last of some pieces loses its last octet, and the others stay
pub last_without : (pieces : List (List ℕ)) (last : List ℕ) → without_comma (pieces ++ last ∷ []) ≡ pieces ++ take (length last - 1) last ∷ []
last_without [] last = refl
last_without (piece ∷ []) last = refl
last_without (piece ∷ next ∷ pieces) last = ap (λ rest. piece ∷ rest) (last_without (next ∷ pieces) last)
