-- The texts of names, by their last labels.
use Rattle.std.proofs.Common.{◌≡◌, ℕ, ◌+◌, ◌<◌, List, [], ◌∷◌, ◌++◌, length, get_or, drop, Option, Some, None, Bor, sym, ap, ◌∙◌, append_assoc}
use Rattle.std.specs.List.{flat_map}
use Rattle.std.specs.Prelude.{MatchOption}
use Rattle.std.proofs.lemmas.List.{drop_more}
use Rattle.dns_data.specs.Name.{Labels}
use Rattle.dns_data.specs.Spelling.{label_text, octet_text}

-- from a plain octet on a label's text begins with it
pub plain_first : (place : ℕ) (label : List ℕ) → place < length label → octet_text (get_or label place 0) ≡ get_or label place 0 ∷ []
    → (rest : List ℕ) × (label_text (drop place label) ≡ get_or label place 0 ∷ rest)
plain_first place label within plain =
    let others : List ℕ = drop (place + 1) label in (
      label_text others,
      ap label_text (drop_more label place 0 within) ∙ ap (λ (text : List ℕ). (text ++ flat_map octet_text others) ++ 46 ∷ []) plain,
    )

-- the next label of what is left of a name is the last of the front then
pub more_last : (last : Option (Bor (List ℕ))) (name rest left : Labels) (label : List ℕ)
    → MatchOption last (rest ≡ name) (λ above. (front : Labels) × (name ≡ front ++ above.now ∷ rest))
    → rest ≡ label ∷ left → (front : Labels) × (name ≡ front ++ label ∷ left)
more_last None name rest left label at next = ([], sym at ∙ next)
more_last (Some above) name rest left label at next = (
  at.0 ++ above.now ∷ [],
  at.1 ∙ ap (λ (xs : Labels). at.0 ++ above.now ∷ xs) next ∙ sym (append_assoc at.0 (above.now ∷ []) (label ∷ left)),
)
