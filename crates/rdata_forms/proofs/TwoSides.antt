-- The sides of the first `::` of a text.
use Rattle.std.proofs.Common.{◌≡◌, ℕ, ◌+◌, ◌<◌, ◌≤◌, ◌&&◌, suc, List, [], ◌∷◌, ◌++◌, length, get_or, take, drop, eqb, Option, Some, None, option_map, refl, ap, sym, ◌∙◌, arith, add-one, drop-cons, length-drop, append_assoc}
use Rattle.std.proofs.lemmas.Bool.{cond-false}
use Rattle.std.proofs.lemmas.Bool.Decides.{nat_tests}
use Rattle.std.proofs.Math.Seq.{take-suc}
use Rattle.rdata_forms.specs.Addresses.{Sides, sides_of, after_octet}

-- the sides of a `::`, with these octets before them
abbrev pub after_octets : List ℕ → Sides → Sides
after_octets octets sides = record { front = octets ++ sides.front; back = sides.back }

-- a text from a place on begins with the octet there and the one behind it
pub two_octets : (text : List ℕ) (i at : ℕ) → at ≡ i + 1 → at < length text → drop i text ≡ get_or text i 0 ∷ get_or text at 0 ∷ drop (at + 1) text
two_octets text i at e lt =
    let next : suc i ≡ at = omega arith in
    let after : suc at ≡ at + 1 = omega arith in
    drop-cons text i 0 (omega arith)
    ∙ ap (λ (k : ℕ). get_or text i 0 ∷ drop k text) next
    ∙ ap (λ (rest : List ℕ). get_or text i 0 ∷ rest) (drop-cons text at 0 lt ∙ ap (λ (k : ℕ). get_or text at 0 ∷ drop k text) after)

-- an octet that begins no `::` stands before the sides of what follows
pub sides-later : (first second : ℕ) (rest : List ℕ) → (first ≡ 58 → second ≡ 58 → ⊥) → sides_of (first ∷ second ∷ rest) ≡ option_map (after_octet first) (sides_of (second ∷ rest))
sides-later first second rest h = cond-false (eqb first 58 && eqb second 58) _ _ (grind (arith, nat_tests))

-- octets and one more stand before the sides as the octets with it do
pub after_one_more : (octets : List ℕ) (octet : ℕ) (sides : Option Sides) → option_map (after_octets octets) (option_map (after_octet octet) sides) ≡ option_map (after_octets (octets ++ octet ∷ [])) sides
after_one_more octets octet None = refl
after_one_more octets octet (Some sides) =
    ap (λ (front : List ℕ). Some (record { front = front; back = sides.back })) (sym (append_assoc octets (octet ∷ []) sides.front))

-- the sides with no octet before them are the sides
pub after_none : (sides : Option Sides) → option_map (after_octets []) sides ≡ sides
after_none None = refl
after_none (Some sides) = refl

-- The sides of a text are those of what is left, with so many octets that were passed before them.
pub record AreSides (text : List ℕ) (i : ℕ) : Type 0 where
  pub same : sides_of text ≡ option_map (after_octets (take i text)) (sides_of (drop i text))

-- one octet more of a text was passed without a `::`
pub are_sides-next : (text : List ℕ) (i at : ℕ) → at ≡ i + 1 → at < length text → AreSides text i → (get_or text i 0 ≡ 58 → get_or text at 0 ≡ 58 → ⊥) → AreSides text at
are_sides-next text i at e lt h other =
    let passed : take at text ≡ take i text ++ get_or text i 0 ∷ [] = let e2 : at ≡ suc i = omega arith in ap (λ (k : ℕ). take k text) e2 ∙ take-suc text i 0 (omega arith) in
    let one : drop at text ≡ get_or text at 0 ∷ drop (at + 1) text = drop-cons text at 0 lt ∙ ap (λ (k : ℕ). get_or text at 0 ∷ drop k text) (sym (add-one at)) in
    record {
      same = h.same
          ∙ ap (λ (rest : List ℕ). option_map (after_octets (take i text)) (sides_of rest)) (two_octets text i at e lt)
          ∙ ap (option_map (after_octets (take i text))) (sides-later (get_or text i 0) (get_or text at 0) (drop (at + 1) text) other)
          ∙ after_one_more (take i text) (get_or text i 0) (sides_of (get_or text at 0 ∷ drop (at + 1) text))
          ∙ ap (λ (front : List ℕ). option_map (after_octets front) (sides_of (get_or text at 0 ∷ drop (at + 1) text))) (sym passed)
          ∙ ap (λ (rest : List ℕ). option_map (after_octets (take at text)) (sides_of rest)) (sym one);
    }

-- one octet has no sides
short-none : (text : List ℕ) → length text ≤ 1 → sides_of text ≡ None
short-none [] h = refl
short-none (x ∷ []) h = refl
short-none (x ∷ y ∷ rest) h = absurd (omega arith)

-- a text that was passed to its end without a `::` has no sides
pub are_sides-end : (text : List ℕ) (i : ℕ) → length text ≤ i + 1 → AreSides text i → sides_of text ≡ None
are_sides-end text i ge h =
    let short : length (drop i text) ≤ 1 = omega (arith, length-drop i text) in
    h.same ∙ ap (option_map (after_octets (take i text))) (short-none (drop i text) short)
