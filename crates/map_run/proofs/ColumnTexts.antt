-- Columns that are put one behind the other.
use Rattle.std.proofs.Common.{◌≡◌, ℕ, ◌<◌, List, [], ◌∷◌, ◌++◌, length, append_assoc, append-nil, ap, sym, ◌∙◌, arith}
use Rattle.std.specs.List.{flat_map}
use Rattle.std.proofs.lemmas.Grind.{flat_map-append}
use Rattle.dns_data.specs.DataText.{separated}
use Rattle.dns_data.proofs.Pieces.{separated-push}
use Rattle.map_run.specs.Columns.{tab}

-- one column more, behind a tab
more : (t x : List ℕ) (columns : List (List ℕ)) → 0 < length columns → (s : List ℕ) → s ≡ t ++ separated tab columns
    → (s ++ tab) ++ x ≡ t ++ separated tab (columns ++ x ∷ [])
more t x columns some s is =
    ap (λ r. (r ++ tab) ++ x) is
    ∙ ap (λ r. r ++ x) (append_assoc t (separated tab columns) tab)
    ∙ append_assoc t (separated tab columns ++ tab) x
    ∙ ap (λ r. t ++ r) (sym (separated-push tab columns x some))

-- five columns put one after another with tabs between them are the line of five columns
pub five_columns : (t a b c d e : List ℕ)
    → ((((((((t ++ a) ++ tab) ++ b) ++ tab) ++ c) ++ tab) ++ d) ++ tab) ++ e ≡ t ++ separated tab (a ∷ b ∷ c ∷ d ∷ e ∷ [])
five_columns t a b c d e =
    let one : t ++ a ≡ t ++ separated tab (a ∷ []) = ap (λ r. t ++ r) (sym (append-nil a)) in
    let two = more t b (a ∷ []) (omega arith) (t ++ a) one in
    let three = more t c (a ∷ b ∷ []) (omega arith) _ two in
    let four = more t d (a ∷ b ∷ c ∷ []) (omega arith) _ three in
    more t e (a ∷ b ∷ c ∷ d ∷ []) (omega arith) _ four

-- seven columns, of which the fifth and the sixth are put together
pub seven_columns : (t a b c d e f g : List ℕ)
    → ((((((((((t ++ a) ++ tab) ++ b) ++ tab) ++ c) ++ tab) ++ d) ++ tab) ++ (e ++ (tab ++ f))) ++ tab) ++ g
    ≡ t ++ separated tab (a ∷ b ∷ c ∷ d ∷ e ∷ f ∷ g ∷ [])
seven_columns t a b c d e f g =
    let one : t ++ a ≡ t ++ separated tab (a ∷ []) = ap (λ r. t ++ r) (sym (append-nil a)) in
    let two = more t b (a ∷ []) (omega arith) (t ++ a) one in
    let three = more t c (a ∷ b ∷ []) (omega arith) _ two in
    let four = more t d (a ∷ b ∷ c ∷ []) (omega arith) _ three in
    let five = more t e (a ∷ b ∷ c ∷ d ∷ []) (omega arith) _ four in
    let six = more t f (a ∷ b ∷ c ∷ d ∷ e ∷ []) (omega arith) _ five in
    let seven = more t g (a ∷ b ∷ c ∷ d ∷ e ∷ f ∷ []) (omega arith) _ six in
    let x : List ℕ = (((((((t ++ a) ++ tab) ++ b) ++ tab) ++ c) ++ tab) ++ d) ++ tab in
    ap (λ r. (r ++ tab) ++ g) (sym (append_assoc x e (tab ++ f)) ∙ sym (append_assoc (x ++ e) tab f)) ∙ seven

-- four columns put one after another with tabs between them, and then others, each behind a tab
pub four_and_more : (t a b c d : List ℕ) (others : List (List ℕ))
    → (((((((t ++ a) ++ tab) ++ b) ++ tab) ++ c) ++ tab) ++ d) ++ flat_map (λ next. tab ++ next) others
    ≡ t ++ separated tab (a ∷ b ∷ c ∷ d ∷ others)
four_and_more t a b c d others =
    let one : t ++ a ≡ t ++ separated tab (a ∷ []) = ap (λ r. t ++ r) (sym (append-nil a)) in
    let two = more t b (a ∷ []) (omega arith) (t ++ a) one in
    let three = more t c (a ∷ b ∷ []) (omega arith) _ two in
    let four = more t d (a ∷ b ∷ c ∷ []) (omega arith) _ three in
    let behind : List (List ℕ) → List ℕ = flat_map (λ next. tab ++ next) in
    ap (λ r. r ++ behind others) four
    ∙ append_assoc t (a ++ behind (b ∷ c ∷ d ∷ [])) (behind others)
    ∙ ap (λ r. t ++ r) (append_assoc a (behind (b ∷ c ∷ d ∷ [])) (behind others))
    ∙ ap (λ r. t ++ (a ++ r)) (sym (flat_map-append (λ next. tab ++ next) (b ∷ c ∷ d ∷ []) others))
