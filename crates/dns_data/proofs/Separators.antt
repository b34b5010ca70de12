-- Texts with a separator between them.
use Rattle.std.proofs.Common.{◌≡◌, ℕ, Bool, true, false, List, [], ◌∷◌, ◌++◌, length, eqb, sym, refl, ap, ◌∙◌, ◌==◌, arith}
use Rattle.std.specs.List.{flat_map, onto_first, join_with_byte, slice_split}
use Rattle.std.proofs.lemmas.Bool.{cond-true, cond-false, eq-eqb}
use Rattle.std.proofs.lemmas.List.{append-nil}
use Rattle.std.proofs.lemmas.List.Splits.{join_with_byte-slice_split}
use Rattle.dns_data.specs.DataText.{separated}

-- the pieces between separators
abbrev pub split_on : ℕ → List ℕ → List (List ℕ)
split_on separator octets = slice_split (λ octet. octet == separator) octets

-- the text doesn't have the octet
abbrev pub Lacks : ℕ → List ℕ → Type 0
Lacks c [] = Unit {0}
Lacks c (x ∷ xs) = (eqb x c ≡ false) × Lacks c xs

-- none of the texts of a list has the octet
abbrev pub AllLack : ℕ → List (List ℕ) → Type 0
AllLack c [] = Unit {0}
AllLack c (text ∷ texts) = Lacks c text × AllLack c texts

-- two texts without an octet are without it together
pub lacks-append : (c : ℕ) (a b : List ℕ) → Lacks c a → Lacks c b → Lacks c (a ++ b)
lacks-append c [] b p q = q
lacks-append c (x ∷ a) b p q = (p.0, lacks-append c a b p.1 q)

-- texts of the items of a list without an octet are without it together
pub lacks-flat_map : {X : Type 0} (c : ℕ) (text_of : X → List ℕ) (items : List X) → ((x : X) → Lacks c (text_of x)) → Lacks c (flat_map text_of items)
lacks-flat_map c text_of [] h = tt
lacks-flat_map c text_of (x ∷ items) h = lacks-append c (text_of x) (flat_map text_of items) (h x) (lacks-flat_map c text_of items h)

-- the texts behind the first, each with the separator before it
abbrev pub rest_of : ℕ → List (List ℕ) → List ℕ
rest_of c texts = flat_map (λ next. (c ∷ []) ++ next) texts

-- the same as std joins them
separated-joins : (c : ℕ) (texts : List (List ℕ)) → separated (c ∷ []) texts ≡ join_with_byte c texts
separated-joins c [] = refl
separated-joins c (x ∷ []) = append-nil x
separated-joins c (x ∷ y ∷ texts) = ap (λ (l : List ℕ). x ++ (c ∷ l)) (separated-joins c (y ∷ texts))

-- the pieces of a text, with the separators between them, are the text
pub separated-split : (c : ℕ) (text : List ℕ) → separated (c ∷ []) (split_on c text) ≡ text
separated-split c text = separated-joins c (split_on c text) ∙ join_with_byte-slice_split c text

-- a text without the separator stands before the first one
split-lacking : (c : ℕ) (text rest : List ℕ) → Lacks c text → split_on c (text ++ (c ∷ rest)) ≡ text ∷ split_on c rest
split-lacking c [] rest h = cond-true (eqb c c) _ _ (eq-eqb c c refl)
split-lacking c (x ∷ text) rest h =
    cond-false (eqb x c) _ _ h.0 ∙ ap (onto_first x) (split-lacking c text rest h.1)

-- or is the only piece
split-alone : (c : ℕ) (text : List ℕ) → Lacks c text → split_on c text ≡ text ∷ []
split-alone c [] h = refl
split-alone c (x ∷ text) h = cond-false (eqb x c) _ _ h.0 ∙ ap (onto_first x) (split-alone c text h.1)

-- texts without the separator are the pieces of what they make
pub split-separated : (c : ℕ) (first : List ℕ) (texts : List (List ℕ)) → AllLack c (first ∷ texts) → split_on c (separated (c ∷ []) (first ∷ texts)) ≡ first ∷ texts
split-separated c first [] h = ap (split_on c) (append-nil first) ∙ split-alone c first h.0
split-separated c first (next ∷ texts) h =
    split-lacking c first (next ++ rest_of c texts) h.0 ∙ ap (λ (l : List (List ℕ)). first ∷ l) (split-separated c next texts h.1)

-- two lists of as many texts without the separator are equal if they make the same text
pub separated_same : (c : ℕ) (xs ys : List (List ℕ)) → length xs ≡ length ys → AllLack c xs → AllLack c ys → separated (c ∷ []) xs ≡ separated (c ∷ []) ys → xs ≡ ys
separated_same c [] [] n p q e = refl
separated_same c [] (y ∷ ys) n p q e = absurd (omega arith)
separated_same c (x ∷ xs) [] n p q e = absurd (omega arith)
separated_same c (x ∷ xs) (y ∷ ys) n p q e =
    sym (split-separated c x xs p) ∙ ap (split_on c) e ∙ split-separated c y ys q

not_both : (b : Bool) → b ≡ true → b ≡ false → ⊥
not_both b h k = cc

-- texts without the separator that stand before its first place in the same text are equal, and so is what stands
-- behind
pub first_same : (c : ℕ) (a b r s : List ℕ) → Lacks c a → Lacks c b → a ++ (c ∷ r) ≡ b ++ (c ∷ s) → (a ≡ b) × (r ≡ s)
first_same c [] [] r s p q e = (refl, cc)
first_same c [] (y ∷ b) r s p q e = let same : c ≡ y = cc in absurd (not_both (eqb y c) (eq-eqb y c (sym same)) q.0)
first_same c (x ∷ a) [] r s p q e = let same : x ≡ c = cc in absurd (not_both (eqb x c) (eq-eqb x c same) p.0)
first_same c (x ∷ a) (y ∷ b) r s p q e =
    let head : x ≡ y = cc in
    let rest : a ++ (c ∷ r) ≡ b ++ (c ∷ s) = cc in
    let same = first_same c a b r s p.1 q.1 rest in
    (cc (head, same.0), same.1)
