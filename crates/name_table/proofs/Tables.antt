-- The places of a table's names: which stand below one, and which one label below it.
use Rattle.std.proofs.Common.{◌≡◌, ◌∙◌, ℕ, ◌+◌, ◌<◌, ◌≤◌, true, false, Ordering, Less, Equal, Greater, List, [], ◌∷◌, ◌++◌, length, Contains, is_gt, sym, refl, ap, subst, inl, inr, true≢false, append_assoc, append-nil, arith}
use Rattle.std.proofs.lemmas.Bool.{cases_lt, false_from_ne_true}
use Rattle.std.proofs.lemmas.Cmp.{tied_itself}
use Rattle.std.proofs.lemmas.List.{length-append, nil_from_length, get_or_default}
use Rattle.std.proofs.lemmas.List.Elements.{Contains-get_or}
use Rattle.dns_data.specs.Encoding.{encoded}
use Rattle.dns_data.specs.Name.{Labels, name_cmp, is_prefix, AreInOrder}
use Rattle.dns_data.proofs.Encodings.{encoded_append}
use Rattle.dns_data.proofs.NameFronts.{Begins, is_prefix_tells, is_prefix_told}
use Rattle.dns_data.proofs.NameOrder.{UpTo, names_total, prefix_up_to, up_to_before, between}
use Rattle.dns_data.proofs.OrderedLists.{never_before_itself}
use Rattle.name_table.specs.Table.{name_at, IsTable, IsNextBelow, IsStrictlyBelow}

-- a name doesn't stand behind one that it begins
pub begins_up_to : (a b : Labels) → Begins a b → UpTo a b
begins_up_to a b (x, e) = subst (UpTo a) e (prefix_up_to a x)

-- a name that begins another no longer than it is that other
pub whole_front : (front name : Labels) → Begins front name → length name ≤ length front → name ≡ front
whole_front front name (below, is) few =
    sym is ∙ ap (λ (l : Labels). front ++ l) (nil_from_length below (omega (arith, few, ap (λ (l : Labels). length l) is, length-append front below))) ∙ append-nil front

-- a name that is among names has a place there
pub place_among : (names : List Labels) (name : Labels) → Contains names name → (place : ℕ) × (place < length names) × (name_at names place ≡ name)
place_among names name (place, below, is) = (place, below, get_or_default names place [] name below ∙ is)

-- the name at a place is among the names
pub among_place : (names : List Labels) (place : ℕ) → place < length names → Contains names (name_at names place)
among_place names place below = Contains-get_or names place [] below

-- a name one label below another has a label more
pub next_size : (names : List Labels) (place other : ℕ) → IsNextBelow names place other → length (name_at names other) ≡ length (name_at names place) + 1
next_size names place other next =
    omega (arith, ap (λ (l : Labels). length l) next.is, length-append (name_at names place) (next.label ∷ []))

-- a name is above those one label below it
pub next_begins : (names : List Labels) (place other : ℕ) → IsNextBelow names place other → Begins (name_at names place) (name_at names other)
next_begins names place other next = (next.label ∷ [], sym next.is)

module _ (names : List Labels) (order : AreInOrder names) where
  -- a name doesn't stand behind those at later places
  pub up_to_later : (i j : ℕ) → i ≤ j → j < length names → UpTo (name_at names i) (name_at names j)
  up_to_later i j low within =
      elim (cases_lt i j) [
        | inl before ↦ ap is_gt (order i j [] before within)
        | inr here ↦ (
            let e : i ≡ j = omega (arith, low, here) in
            subst (λ (k : ℕ). UpTo (name_at names i) (name_at names k)) e (ap is_gt (tied_itself names_total (name_at names i))))
      ]

  -- a name that doesn't stand behind another isn't at a later place
  pub place_up_to : (i j : ℕ) → i < length names → UpTo (name_at names i) (name_at names j) → i ≤ j
  place_up_to i j within low =
      elim (cases_lt j i) [
        | inl before ↦
            absurd (never_before_itself name_cmp names_total (name_at names i)
            (up_to_before (name_at names i) (name_at names j) (name_at names i) low (order j i [] before within)))
        | inr not_before ↦ not_before
      ]

  -- a name has one place
  pub one_place : (i j : ℕ) → i < length names → j < length names → name_at names i ≡ name_at names j → i ≡ j
  one_place i j first second same =
      let low : UpTo (name_at names i) (name_at names j) = subst (UpTo (name_at names i)) same (ap is_gt (tied_itself names_total (name_at names i))) in
      let high : UpTo (name_at names j) (name_at names i) = subst (λ (n : Labels). UpTo n (name_at names i)) same (ap is_gt (tied_itself names_total (name_at names i))) in
      omega (arith, place_up_to i j first low, place_up_to j i second high)

  -- what stands between a name and one below it is below it too
  pub inside_between : (i j k : ℕ) → i ≤ j → j ≤ k → k < length names → Begins (name_at names i) (name_at names k) → Begins (name_at names i) (name_at names j)
  inside_between i j k low high within (below, is) =
      between (name_at names i) (name_at names j) below (up_to_later i j low (omega (arith, high, within)))
      (subst (UpTo (name_at names j)) (sym is) (up_to_later j k high within))

  -- a name stands behind the one that it is one label below
  pub next_behind : (place other : ℕ) → IsNextBelow names place other → place < other
  next_behind place other next =
      let low : place ≤ other = place_up_to place other next.within (begins_up_to (name_at names place) (name_at names other) (next_begins names place other next)) in
      elim (cases_lt place other) [
        | inl behind ↦ behind
        | inr here ↦ (
            let e : place ≡ other = omega (arith, low, here) in
            omega (arith, next_size names place other next, ap (λ (k : ℕ). length (name_at names k)) e))
      ]

  -- of two names one label below another neither begins the other
  pub one_child : (place i j : ℕ) → IsNextBelow names place i → IsNextBelow names place j → Begins (name_at names i) (name_at names j) → i ≡ j
  one_child place i j first second begins =
      one_place i j first.inside second.inside
      (sym (whole_front (name_at names i) (name_at names j) begins (omega (arith, next_size names place i first, next_size names place j second))))

  -- a name behind another that isn't below it stands behind all that are
  pub outside_behind : (place other : ℕ) → place < other → other < length names → is_prefix (name_at names place) (name_at names other) ≡ false
      → (below : Labels) → Greater ≡ name_cmp (name_at names other) (name_at names place ++ below)
  outside_behind place other behind within outside below = by (name_cmp (name_at names other) (name_at names place ++ below)) refl where
    never : UpTo (name_at names other) (name_at names place ++ below) → ⊥
    never low =
        true≢false (sym (is_prefix_told (name_at names place) (name_at names other)
        (between (name_at names place) (name_at names other) below (up_to_later place other (omega (arith, behind)) within) low)) ∙ outside)

    by : (o : Ordering) → name_cmp (name_at names other) (name_at names place ++ below) ≡ o → Greater ≡ o
    by Less e = absurd (never (ap is_gt e))
    by Equal e = absurd (never (ap is_gt e))
    by Greater e = refl

  -- a name isn't below one before it that has as many octets or more
  pub none_short : (place other : ℕ) → place < other → other < length names
      → length (encoded (name_at names other)) ≤ length (encoded (name_at names place)) → false ≡ is_prefix (name_at names place) (name_at names other)
  unfolding encoded
  none_short place other behind within few =
      sym (false_from_ne_true (is_prefix (name_at names place) (name_at names other))
      (λ yes. let (below, is) = is_prefix_tells (name_at names place) (name_at names other) yes in never below is)) where
        never : (below : Labels) → name_at names place ++ below ≡ name_at names other → ⊥
        never [] is =
            let e : place ≡ other = one_place place other (omega (arith, behind, within)) within (sym (append-nil (name_at names place)) ∙ is) in
            omega (arith, e, behind)
        never (label ∷ below) is =
            let more : length (encoded (label ∷ below)) ≡ length (length label ∷ (label ++ encoded below)) = refl in
            omega (
              arith,
              few,
              ap (λ (n : Labels). length (encoded n)) is,
              ap (λ (o : List ℕ). length o) (encoded_append (name_at names place) (label ∷ below)),
              length-append (encoded (name_at names place)) (encoded (label ∷ below)),
              more,
            )

  -- a name below the one at a place stands behind that place
  stands_behind : (place : ℕ) → place < length names → (name : Labels) → IsStrictlyBelow name (name_at names place) → Contains names name
      → (k : ℕ) × (place < k) × (k < length names) × (name_at names k ≡ name)
  stands_behind place within name below has =
      let (k, inside, at) = place_among names name has in
      let above : Labels = name_at names place in
      let low : place ≤ k = place_up_to place k within (subst (UpTo above) (sym (at ∙ below.is)) (prefix_up_to above (below.first ∷ below.rest))) in
      elim (cases_lt place k) [
        | inl behind ↦ (k, behind, inside, at)
        | inr here ↦ (
            let e : place ≡ k = omega (arith, low, here) in
            let same : above ≡ above ++ below.first ∷ below.rest = ap (name_at names) e ∙ at ∙ below.is in
            absurd (omega (arith, ap (λ (l : Labels). length l) same, length-append above (below.first ∷ below.rest))))
      ]

  module _ (table : IsTable names) where
    -- what begins a name of the table, and has the first name's labels, is one too
    pub fronts : (above below : Labels) → is_prefix (name_at names 0) above ≡ true → Contains names (above ++ below) → Contains names above
    fronts above [] inside has = subst (Contains names) (append-nil above) has
    fronts above (label ∷ below) inside has =
        table.parents above label inside
        (fronts (above ++ label ∷ []) below (longer above label inside) (subst (Contains names) (sym (append_assoc above (label ∷ []) below)) has))
      where
        longer : (above : Labels) (label : List ℕ) → is_prefix (name_at names 0) above ≡ true → is_prefix (name_at names 0) (above ++ label ∷ []) ≡ true
        longer above label inside =
            let (rest, is) = is_prefix_tells (name_at names 0) above inside in
            is_prefix_told (name_at names 0) (above ++ label ∷ [])
            (rest ++ label ∷ [], sym (append_assoc (name_at names 0) rest (label ∷ [])) ∙ ap (λ (n : Labels). n ++ label ∷ []) is)

    -- a name below another is at or below one of those one label below that
    pub top_below : (place k : ℕ) → place < k → k < length names → Begins (name_at names place) (name_at names k)
        → (child : ℕ) × IsNextBelow names place child × (child ≤ k) × Begins (name_at names child) (name_at names k)
    top_below place k behind within (below, is) = by below is where
      by : (below : Labels) → name_at names place ++ below ≡ name_at names k
          → (child : ℕ) × IsNextBelow names place child × (child ≤ k) × Begins (name_at names child) (name_at names k)
      by [] is =
          let e : place ≡ k = one_place place k (omega (arith, behind, within)) within (sym (append-nil (name_at names place)) ∙ is) in
          absurd (omega (arith, e, behind))
      by (first ∷ rest) is =
          let whole : (name_at names place ++ first ∷ []) ++ rest ≡ name_at names k = append_assoc (name_at names place) (first ∷ []) rest ∙ is in
          let (up, e) = is_prefix_tells (name_at names 0) (name_at names place) (table.below place (omega (arith, behind, within))) in
          let inside : is_prefix (name_at names 0) (name_at names place ++ first ∷ []) ≡ true =
          is_prefix_told (name_at names 0) (name_at names place ++ first ∷ [])
          (up ++ first ∷ [], sym (append_assoc (name_at names 0) up (first ∷ [])) ∙ ap (λ (n : Labels). n ++ first ∷ []) e) in
          let (child, under, at) = place_among names (name_at names place ++ first ∷ [])
          (fronts (name_at names place ++ first ∷ []) rest inside (subst (Contains names) (sym whole) (among_place names k within))) in
          let begins : Begins (name_at names child) (name_at names k) = (rest, ap (λ (n : Labels). n ++ rest) at ∙ whole) in (
            child,
            record { within = omega (arith, behind, within); inside = under; label = first; is = at },
            place_up_to child k under (begins_up_to (name_at names child) (name_at names k) begins),
            begins,
          )

-- no name is below the one at a place, if the next name isn't or there is none
pub none_below : (names : List Labels) (place : ℕ) → AreInOrder names → place < length names
    → (place + 1 < length names → is_prefix (name_at names place) (name_at names (place + 1)) ≡ false)
    → (name : Labels) → IsStrictlyBelow name (name_at names place) → Contains names name → ⊥
none_below names place order within apart name below has =
    let (k, behind, inside, at) = stands_behind names order place within name below has in
    let begins : Begins (name_at names place) (name_at names (place + 1)) =
    inside_between names order place (place + 1) k (omega arith) (omega (arith, behind)) inside (below.first ∷ below.rest, sym (at ∙ below.is)) in
    true≢false (sym (is_prefix_told (name_at names place) (name_at names (place + 1)) begins) ∙ apart (omega (arith, behind, inside)))
