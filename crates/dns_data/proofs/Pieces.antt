-- Texts of data that are made piece by piece.
use Rattle.std.proofs.Common.{◌≡◌, ℕ, ◌+◌, ◌*◌, ◌<◌, ◌≤◌, List, [], ◌∷◌, ◌++◌, length, map, false, take, get_or, suc, zero, refl, ap, sym, ◌∙◌, append_assoc, arith}
use Rattle.std.specs.Fmt.{digits}
use Rattle.std.specs.List.{flat_map}
use Rattle.std.proofs.lemmas.List.{append-nil, map_more, take_more, length-map, length-take}
use Rattle.std.proofs.lemmas.List.Concat.{flat_map-append}
use Rattle.dns_data.specs.DataText.{separated, groups}

-- a text put behind others with a separator stands behind their text and the separator
pub separated-push : (between : List ℕ) (texts : List (List ℕ)) (text : List ℕ) → 0 < length texts → separated between (texts ++ text ∷ []) ≡ (separated between texts ++ between) ++ text
separated-push between [] text h = absurd (omega arith)
separated-push between (first ∷ texts) text h =
    let behind : List ℕ → List ℕ = λ next. between ++ next in
    let e = flat_map-append behind texts (text ∷ []) in
    let f : first ++ (flat_map behind texts ++ ((between ++ text) ++ [])) ≡ ((first ++ flat_map behind texts) ++ between) ++ text = simp (append_assoc, append-nil) in
    ap (λ rest. first ++ rest) e ∙ f

-- the text of the first item stands behind no separator
pub separated-first : {X : Type 0} (between : List ℕ) (text_of : X → List ℕ) (items : List X) (i : ℕ) (x : X) → i ≤ 0 → i < length items → x ≡ get_or items i x → separated between (map text_of (take (i + 1) items)) ≡ separated between (map text_of (take i items)) ++ text_of x
separated-first between text_of [] i x none below here = absurd (omega arith)
separated-first between text_of (y ∷ ys) i x none below here =
    let start : i ≡ 0 = omega arith in
    let same : x ≡ y = rw start at here in
    rw (start, same) (append-nil (text_of y))

-- behind the texts of the first items, of which there is at least one, stand a separator and the text of the next
pub separated-more : {X : Type 0} (between : List ℕ) (text_of : X → List ℕ) (items : List X) (i : ℕ) (x : X) → 0 < i → i < length items → x ≡ get_or items i x → separated between (map text_of (take (i + 1) items)) ≡ (separated between (map text_of (take i items)) ++ between) ++ text_of x
separated-more between text_of items i x some below here =
    let more = map_more text_of items i x below ∙ ap (λ y. map text_of (take i items) ++ text_of y ∷ []) (sym here) in
    ap (separated between) more ∙ separated-push between (map text_of (take i items)) (text_of x) (omega (arith, length-map (take i items) text_of, length-take i items))

-- the groups of whole pairs of octets and of what follows
groups-append : (k : ℕ) (xs ys : List ℕ) → length xs ≡ 2 * k → groups (xs ++ ys) ≡ groups xs ++ groups ys
groups-append zero [] ys h = refl
groups-append zero (x ∷ xs) ys h = absurd (omega arith)
groups-append (suc k) [] ys h = absurd (omega arith)
groups-append (suc k) (x ∷ []) ys h = absurd (omega arith)
groups-append (suc k) (x ∷ y ∷ xs) ys h = let e = groups-append k xs ys (omega arith) in ap (λ gs. digits 16 false (x * 256 + y) ∷ gs) e

length-groups : (k : ℕ) (xs : List ℕ) → length xs ≡ 2 * k → length (groups xs) ≡ k
length-groups zero [] h = refl
length-groups zero (x ∷ xs) h = absurd (omega arith)
length-groups (suc k) [] h = absurd (omega arith)
length-groups (suc k) (x ∷ []) h = absurd (omega arith)
length-groups (suc k) (x ∷ y ∷ xs) h = ap suc (length-groups k xs (omega arith))

-- the first groups of an address, and one more
groups-more : (address : List ℕ) (i : ℕ) → 2 * i + 1 < length address → groups (take (2 * (i + 1)) address) ≡ groups (take (2 * i) address) ++ digits 16 false (get_or address (2 * i) 0 * 256 + get_or address (2 * i + 1) 0) ∷ []
groups-more address i below =
    let front : List ℕ = take (2 * i) address in
    let a : ℕ = get_or address (2 * i) 0 in
    let b : ℕ = get_or address (2 * i + 1) 0 in
    let high : take (2 * i + 1) address ≡ front ++ a ∷ [] = take_more address (2 * i) 0 (omega arith) in
    let low : take (2 * i + 1 + 1) address ≡ take (2 * i + 1) address ++ b ∷ [] = take_more address (2 * i + 1) 0 below in
    let pair : take (2 * i + 1 + 1) address ≡ front ++ (a ∷ b ∷ []) = low ∙ ap (λ f. f ++ b ∷ []) high ∙ append_assoc front (a ∷ []) (b ∷ []) in
    let places : 2 * (i + 1) ≡ 2 * i + 1 + 1 = omega arith in
    ap (λ n. groups (take n address)) places ∙ ap groups pair ∙ groups-append i front (a ∷ b ∷ []) (omega (arith, length-take (2 * i) address))

-- the first group of an address stands behind no separator
pub group-first : (between address : List ℕ) (i : ℕ) → i ≤ 0 → 2 * i + 1 < length address → separated between (groups (take (2 * (i + 1)) address)) ≡ separated between (groups (take (2 * i) address)) ++ digits 16 false (get_or address (2 * i) 0 * 256 + get_or address (2 * i + 1) 0)
group-first between [] i none below = absurd (omega arith)
group-first between (x ∷ []) i none below = absurd (omega arith)
group-first between (x ∷ y ∷ rest) i none below =
    let start : i ≡ 0 = omega arith in
    rw start (append-nil (digits 16 false (x * 256 + y)))

-- behind the first groups of an address, of which there is at least one, stand a separator and the next group
pub group-more : (between address : List ℕ) (i : ℕ) → 0 < i → 2 * i + 1 < length address → separated between (groups (take (2 * (i + 1)) address)) ≡ (separated between (groups (take (2 * i) address)) ++ between) ++ digits 16 false (get_or address (2 * i) 0 * 256 + get_or address (2 * i + 1) 0)
group-more between address i some below =
    let whole : length (take (2 * i) address) ≡ 2 * i = omega (arith, length-take (2 * i) address) in
    ap (separated between) (groups-more address i below) ∙ separated-push between (groups (take (2 * i) address)) _ (omega (arith, length-groups i (take (2 * i) address) whole))
