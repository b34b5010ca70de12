-- Places that are put into lists and rows.
use Rattle.std.proofs.Common.{◌≡◌, ◌≢◌, ◌∙◌, ℕ, zero, suc, ◌+◌, ◌<◌, ◌≤◌, ◌⊎◌, Bool, true, false, true≢false, List, [], ◌∷◌, ◌++◌, length, get_or, Contains, AllPairs, inl, inr, sym, refl, ap, subst, append_assoc, append-nil, arith, nat_eq, eqb-true}
use Rattle.std.specs.Prelude.{◌↔◌, IsTrue, slice_set}
use Rattle.std.specs.List.{list_any, range_with_len}
use Rattle.std.proofs.lemmas.Bool.{cases_lt}
use Rattle.std.proofs.lemmas.Bool.Decides.{nat_tests}
use Rattle.std.proofs.lemmas.List.{get_or-set_same, get_or-set_other, length-append}
use Rattle.std.proofs.lemmas.List.Elements.{Contains-append_left, Contains-append_right, Contains-append_cases}
use Rattle.std.proofs.lemmas.List.FromFn.{length-range_with_len, get_or-range_with_len}
use Rattle.std.proofs.lemmas.List.Sums.{sum_by-cons}
use Rattle.dns_data.proofs.DifferentItems.{fits_among}
use Rattle.dns_data.proofs.Membership.{none_in_nil, has_first, has_later, first_or_later, pairs_more}
use Rattle.dns_data.proofs.Searches.{from_any, any_has}
use Rattle.label_graph.specs.Rows.{AreAdded, total}

-- two numbers are equal or not
pub same_or_not : (m n : ℕ) → (m ≡ n) ⊎ (m ≡ n → ⊥)
same_or_not m n =
    elim (cases_lt m n) [
      | inl below ↦ inr (λ same. omega arith)
      | inr above ↦ elim (cases_lt n m) [ inl over ↦ inr (λ same. omega arith) | inr under ↦ inl (omega arith) ]
    ]

-- a list has a place or not
pub has_or_not : (list : List ℕ) (place : ℕ) → Contains list place ⊎ (Contains list place → ⊥)
has_or_not [] place = inr (none_in_nil place)
has_or_not (first ∷ list) place =
    elim (same_or_not first place) [
      | inl same ↦ inl (subst (Contains (first ∷ list)) same (has_first first list))
      | inr apart ↦ elim (has_or_not list place) [
        | inl has ↦ inl (has_later first list place has)
        | inr none ↦ inr (λ has. elim (first_or_later first list place has) [ inl same ↦ apart same | inr later ↦ none later ])
      ]
    ]

-- ---- the test of a list

tells_itself : (k : ℕ) → nat_eq k k ≡ true
tells_itself k = grind (arith, nat_tests)

-- a number that the test finds is in the row
row_tells : (row : List ℕ) (k : ℕ) → list_any (λ y. nat_eq y k) row ≡ true → Contains row k
row_tells row k found =
    let (y, has, same) = from_any (λ (n : ℕ). nat_eq n k) row found in
    subst (Contains row) (eqb-true y k same) has

-- the test of a row finds a number exactly if it is in the row
pub row_decides : (row : List ℕ) (k : ℕ) (found : Bool) → found ≡ list_any (λ y. nat_eq y k) row → IsTrue found ↔ Contains row k
row_decides row k found is = (
  λ yes. row_tells row k (sym is ∙ yes),
  λ has. is ∙ any_has (λ (n : ℕ). nat_eq n k) row k has (tells_itself k),
)

-- ---- places that are put at the end of a list

-- at first nothing was put
pub added_none : (list : List ℕ) → AreAdded list [] list false
added_none list =
    record {
      new = [];
      is = sym (append-nil list);
      has = λ place has. absurd (none_in_nil place has);
      only = λ place has. has;
      once = λ differ. differ;
      none = λ none. refl;
      some = λ some. absurd (true≢false (sym some));
    }

module _ (before more after : List ℕ) (any : Bool) (place : ℕ) (added : AreAdded before more after any) where
  in_more : (other : ℕ) → Contains (more ++ place ∷ []) other → Contains more other ⊎ (place ≡ other)
  in_more other has =
      elim (Contains-append_cases more (place ∷ []) other has) [
        | inl old ↦ inl old
        | inr last ↦ elim (first_or_later place [] other last) [ inl same ↦ inr same | inr none ↦ absurd (none_in_nil other none) ]
      ]

  -- a place that the list has isn't put
  pub added_known : Contains after place → AreAdded before (more ++ place ∷ []) after any
  added_known known =
      record {
        new = added.new;
        is = added.is;
        has = λ other has. elim (in_more other has) [ inl old ↦ added.has other old | inr same ↦ subst (Contains after) same known ];
        only = λ other has. Contains-append_left more (place ∷ []) other (added.only other has);
        once = added.once;
        none = added.none;
        some = added.some;
      }

  -- any other is put at the end
  pub added_new : (Contains after place → ⊥) → AreAdded before (more ++ place ∷ []) (after ++ place ∷ []) true
  added_new new =
      record {
        new = added.new ++ place ∷ [];
        is = ap (λ (l : List ℕ). l ++ place ∷ []) added.is ∙ append_assoc before added.new (place ∷ []);
        has = λ other has. elim (in_more other has) [
          | inl old ↦ Contains-append_left after (place ∷ []) other (added.has other old)
          | inr same ↦ Contains-append_right after (place ∷ []) other (subst (Contains (place ∷ [])) same (has_first place []))
        ];
        only = λ other has. elim (Contains-append_cases added.new (place ∷ []) other has) [
          | inl old ↦ Contains-append_left more (place ∷ []) other (added.only other old)
          | inr last ↦ Contains-append_right more (place ∷ []) other last
        ];
        once = λ differ. pairs_more (λ a b. a ≢ b) after place (added.once differ) (λ other has same. new (subst (Contains after) same has));
        none = λ none. absurd (true≢false none);
        some = λ some. omega (arith, length-append added.new (place ∷ []));
      }

-- to any list those of some places that it hasn't can be put
pub can_be_added : (before more : List ℕ) → (after : List ℕ) × (any : Bool) × AreAdded before more after any
can_be_added before more = further [] more before false (added_none before) where
  further : (done rest after : List ℕ) (any : Bool) → AreAdded before done after any
      → (all : List ℕ) × (some : Bool) × AreAdded before (done ++ rest) all some
  further done [] after any added = (after, any, subst (λ (l : List ℕ). AreAdded before l after any) (sym (append-nil done)) added)
  further done (place ∷ rest) after any added =
      let whole : (done ++ place ∷ []) ++ rest ≡ done ++ place ∷ rest = append_assoc done (place ∷ []) rest in
      elim (has_or_not after place) [
        | inl known ↦ (
            let (all, some, put) = further (done ++ place ∷ []) rest after any (added_known before done after any place added known) in
            (all, some, subst (λ (l : List ℕ). AreAdded before l all some) whole put))
        | inr new ↦ (
            let (all, some, put) = further (done ++ place ∷ []) rest (after ++ place ∷ []) true (added_new before done after any place added new) in
            (all, some, subst (λ (l : List ℕ). AreAdded before l all some) whole put))
      ]

-- different places below a number are no more than the number
pub few_places : (places : List ℕ) (n : ℕ) → AllPairs (λ a b. a ≢ b) places → ((place : ℕ) → Contains places place → place < n) → length places ≤ n
few_places places n differ below =
    let few : length places ≤ length (range_with_len 0 n) = fits_among places (range_with_len 0 n) differ (λ place has. is_below place (below place has)) in
    omega (arith, few, length-range_with_len 0 n)
  where
    is_below : (k : ℕ) → k < n → Contains (range_with_len 0 n) k
    is_below k less = (
      k,
      subst (λ (m : ℕ). k < m) (sym (length-range_with_len 0 n)) less,
      get_or-range_with_len 0 n k k less ∙ omega arith,
    )

-- ---- a row that is put in the place of another

-- at its place stands the row that was put, and at any other the row that stood there
pub row_of_set : (rows : List (List ℕ)) (place : ℕ) (row : List ℕ) → place < length rows → (p : ℕ)
    → ((p ≡ place) × (get_or (slice_set rows place row) p [] ≡ row)) ⊎ (get_or (slice_set rows place row) p [] ≡ get_or rows p [])
row_of_set rows place row within p =
    elim (same_or_not p place) [
      | inl same ↦ inl (same, subst (λ (k : ℕ). get_or (slice_set rows place row) k [] ≡ row) (sym same) (get_or-set_same rows place row [] within))
      | inr apart ↦ inr (get_or-set_other rows place p row [] apart)
    ]

-- all rows have as many places more as the row that was put has more than the one before
pub total_set : (rows : List (List ℕ)) (place : ℕ) (row : List ℕ) → place < length rows
    → total (slice_set rows place row) + length (get_or rows place []) ≡ total rows + length row
total_set [] place row within = absurd (omega arith)
total_set (first ∷ rows) zero row within =
    omega (arith, sum_by-cons (λ (r : List ℕ). length r) row rows, sum_by-cons (λ (r : List ℕ). length r) first rows)
total_set (first ∷ rows) (suc place) row within =
    omega (arith, sum_by-cons (λ (r : List ℕ). length r) first (slice_set rows place row), sum_by-cons (λ (r : List ℕ). length r) first rows, total_set rows place row (omega arith))
