-- The last labels of the names one label below another.
use Rattle.std.proofs.Common.{◌≡◌, ◌∙◌, ℕ, ◌+◌, ◌<◌, List, [], ◌∷◌, ◌++◌, length, get_or, Contains, AllPairs, Ordering, Less, Equal, Greater, sym, refl, ap, subst, inl, inr, arith}
use Rattle.std.specs.Prelude.{◌↔◌}
use Rattle.std.specs.Ordering.{ordering_then}
use Rattle.std.proofs.Math.Seq.{get_or-append_seam}
use Rattle.std.proofs.lemmas.Bool.{cases_lt}
use Rattle.std.proofs.lemmas.List.{get_or_default, get_or_append_left}
use Rattle.std.proofs.lemmas.List.Elements.{Contains-get_or}
use Rattle.dns_data.specs.Label.{label_cmp}
use Rattle.dns_data.specs.Name.{Labels, name_cmp, AreInOrder}
use Rattle.label_graph.specs.Graphs.{HasChild, AreLabelsBelow}
use Rattle.label_graph.specs.LiveSet.{name_at}
use Rattle.label_graph.proofs.NamePlaces.{same_last}
use Rattle.name_table.specs.Table.{IsNextBelow}
use Rattle.name_table.proofs.NameKeys.{under_labels}
use Rattle.name_table.proofs.Tables.{place_among, among_place}

-- names with a label below one name stand as those labels
pub last_decides : (above : Labels) (x y : List ℕ) → name_cmp (above ++ x ∷ []) (above ++ y ∷ []) ≡ Less → label_cmp x y ≡ Less
last_decides above x y e = by (label_cmp x y) refl (sym (under_labels above (x ∷ []) (y ∷ [])) ∙ e) where
  by : (o : Ordering) → label_cmp x y ≡ o → ordering_then o Equal ≡ Less → label_cmp x y ≡ Less
  by Less is e = is
  by Equal is e = cc
  by Greater is e = cc

module _ (names : List Labels) (place : ℕ) (row : List ℕ) where
  -- the first so many names of the row have these last labels, one after another
  abbrev pub AreLasts : List (List ℕ) → ℕ → Type 0
  AreLasts labels count = (k : ℕ) → k < count → name_at names (get_or row k 0) ≡ name_at names place ++ get_or labels k [] ∷ []

  -- one name more of the row has the next last label
  pub lasts_more : (labels : List (List ℕ)) (label : List ℕ) (count : ℕ) → length labels ≡ count → AreLasts labels count
      → name_at names (get_or row count 0) ≡ name_at names place ++ label ∷ [] → AreLasts (labels ++ label ∷ []) (count + 1)
  lasts_more labels label count len are at k low =
      elim (cases_lt k count) [
        | inl before ↦
            are k before
            ∙ ap (λ (l : List ℕ). name_at names place ++ l ∷ []) (sym (get_or_append_left labels (label ∷ []) [] k (omega (arith, before, len))))
        | inr last ↦ (
            let here : length labels ≡ k = omega (arith, last, low, len) in
            let same : count ≡ k = omega (arith, last, low) in
            let found : get_or (labels ++ label ∷ []) k [] ≡ label =
            subst (λ (i : ℕ). get_or (labels ++ label ∷ []) i [] ≡ label) here (get_or-append_seam labels label [] []) in
            subst (λ (i : ℕ). name_at names (get_or row i 0) ≡ name_at names place ++ label ∷ []) same at
            ∙ ap (λ (l : List ℕ). name_at names place ++ l ∷ []) (sym found))
      ]

module _ (names : List Labels) (place : ℕ) (within : place < length names) (row : List ℕ) (below : (other : ℕ) → Contains row other ↔ IsNextBelow names place other)
    (labels : List (List ℕ)) (count : length labels ≡ length row)
    (each : AreLasts names place row labels (length row))
  where
    -- the last labels of the names one label below, one after another
    pub are_labels_below : AreInOrder names → AllPairs (λ a b. a < b) row → AreLabelsBelow names place labels
    are_labels_below order rising = record { all = λ label. (there label, back label); order = in_order } where
      there : (label : List ℕ) → Contains labels label → HasChild names label place
      there label (k, inside, is) =
          let short : k < length row = omega (arith, inside, count) in
          let next = (below (get_or row k 0)).0 (Contains-get_or row k 0 short) in
          subst (Contains names) (each k short ∙ ap (λ (l : List ℕ). name_at names place ++ l ∷ []) (get_or_default labels k [] label inside ∙ is))
          (among_place names (get_or row k 0) next.inside)

      back : (label : List ℕ) → HasChild names label place → Contains labels label
      back label has =
          let (other, inside, at) = place_among names (name_at names place ++ label ∷ []) has in
          let (k, short, is) = (below other).1 (record { within = within; inside = inside; label = label; is = at }) in
          let same : get_or labels k [] ≡ label =
          same_last (name_at names place) (name_at names place) (get_or labels k []) label
          (sym (each k short) ∙ ap (name_at names) (get_or_default row k 0 other short ∙ is) ∙ at) in
          subst (Contains labels) same (Contains-get_or labels k [] (omega (arith, short, count)))

      in_order : AllPairs (λ a b. label_cmp a b ≡ Less) labels
      in_order i j d before inside =
          let short : j < length row = omega (arith, inside, count) in
          let first : i < length row = omega (arith, before, short) in
          let next = (below (get_or row j 0)).0 (Contains-get_or row j 0 short) in
          subst (λ (l : List ℕ). label_cmp l (get_or labels j d) ≡ Less) (sym (get_or_default labels i d [] (omega (arith, before, inside))))
          (subst (λ (l : List ℕ). label_cmp (get_or labels i []) l ≡ Less) (sym (get_or_default labels j d [] inside))
          (last_decides (name_at names place) (get_or labels i []) (get_or labels j [])
          (subst (λ (n : Labels). name_cmp n (name_at names place ++ get_or labels j [] ∷ []) ≡ Less) (each i first)
          (subst (λ (n : Labels). name_cmp (name_at names (get_or row i 0)) n ≡ Less) (each j short)
          (order (get_or row i 0) (get_or row j 0) [] (rising i j 0 before short) next.inside)))))
