-- Rows of which the empty ones at the end aren't kept.
use Rattle.std.proofs.Common.{◌≡◌, ◌∙◌, ℕ, ◌+◌, ◌-◌, ◌<◌, ◌≤◌, List, [], ◌∷◌, ◌++◌, length, get_or, replicate, sym, ap, append_assoc, append-nil, arith}
use Rattle.std.specs.Prelude.{slice_set}
use Rattle.std.proofs.lemmas.List.{length-append, length-replicate, length-set, set-append_left, get_or_append_left, replicate-append-replicate}
use Rattle.label_graph.specs.Rows.{IsFilledOn, all_rows}

-- so many empty rows
abbrev empty : ℕ → List (List ℕ)
empty count = replicate count []

-- at first no empty row was put
pub filled_none : (rows : List (List ℕ)) (place : ℕ) → IsFilledOn rows place rows
filled_none rows place = record { more = 0; is = sym (append-nil rows); within = omega arith }

-- one empty row more was put
pub filled_more : (rows : List (List ℕ)) (place : ℕ) (after more : List (List ℕ)) → IsFilledOn rows place after → length after ≤ place → more ≡ after ++ [] ∷ []
    → IsFilledOn rows place more
filled_more rows place after more filled short is =
    record {
      more = filled.more + 1;
      is = is ∙ ap (λ (l : List (List ℕ)). l ++ empty 1) filled.is ∙ append_assoc rows (empty filled.more) (empty 1)
          ∙ ap (λ (l : List (List ℕ)). rows ++ l) (replicate-append-replicate filled.more 1 []);
      within = omega (arith, short, ap (λ (l : List (List ℕ)). length l) filled.is, length-append rows (empty filled.more), length-replicate {A = List ℕ} filled.more []);
    }

-- there are as many as places
pub all_len : (filled : List (List ℕ)) (count : ℕ) → length filled ≤ count → length (all_rows filled count) ≡ count
all_len filled count within =
    omega (arith, within, length-append filled (empty (count - length filled)), length-replicate {A = List ℕ} (count - length filled) [])

-- empty rows that are put at the end leave the rows of all places as they were
pub filled_same : (rows after : List (List ℕ)) (place count : ℕ) → IsFilledOn rows place after → length rows ≤ count → place < count
    → all_rows after count ≡ all_rows rows count
filled_same rows after place count filled within low =
    ap (λ (l : List (List ℕ)). l ++ empty (count - length after)) filled.is
    ∙ append_assoc rows (empty filled.more) (empty (count - length after))
    ∙ ap (λ (l : List (List ℕ)). rows ++ l) (replicate-append-replicate filled.more (count - length after) [] ∙ ap empty rest)
  where
    rest : filled.more + (count - length after) ≡ count - length rows
    rest = omega (arith, within, low, filled.within, ap (λ (l : List (List ℕ)). length l) filled.is, length-append rows (empty filled.more), length-replicate {A = List ℕ} filled.more [])

-- a row that is kept is put in the place of another
pub filled_set : (rows : List (List ℕ)) (place count : ℕ) (row : List ℕ) → place < length rows
    → all_rows (slice_set rows place row) count ≡ slice_set (all_rows rows count) place row
filled_set rows place count row within =
    ap (λ (n : ℕ). slice_set rows place row ++ empty (count - n)) (length-set rows place row)
    ∙ sym (set-append_left rows (empty (count - length rows)) place row within)

module _ (rows after : List (List ℕ)) (place count : ℕ) (filled : IsFilledOn rows place after) (within : length rows ≤ count) (low : place < count)
    (has : place < length after)
  where
    -- the row of the place is as it was
    pub filled_row : get_or after place [] ≡ get_or (all_rows rows count) place []
    filled_row =
        sym (get_or_append_left after (empty (count - length after)) [] place has)
        ∙ ap (λ (l : List (List ℕ)). get_or l place []) (filled_same rows after place count filled within low)

    -- another row stands at the place
    pub filled_put : (kept : List (List ℕ)) (row : List ℕ) → kept ≡ slice_set after place row → all_rows kept count ≡ slice_set (all_rows rows count) place row
    filled_put kept row is =
        ap (λ (l : List (List ℕ)). all_rows l count) is
        ∙ filled_set after place count row has
        ∙ ap (λ (l : List (List ℕ)). slice_set l place row) (filled_same rows after place count filled within low)
