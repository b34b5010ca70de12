-- A name is in one of the intervals that part at rising names.
use Rattle.std.proofs.Common.{◌≡◌, ◌∙◌, suc, Bool, true, false, cond, List, [], ◌∷◌, length, filter, Contains, Option, Some, None, Ordering, Less, Equal, Greater, sym, refl, ap, subst, true≢false}
use Rattle.std.specs.Prelude.{◌&&◌, not, codes}
use Rattle.std.specs.List.{count_by}
use Rattle.std.specs.Ordering.{is_lt}
use Rattle.std.proofs.lemmas.List.Sums.{length-filter}
use Rattle.dns_data.specs.Name.{Labels, name_cmp, AreInOrder}
use Rattle.dns_data.proofs.Membership.{has_first, pairs_first, pairs_rest}
use Rattle.dns_data.proofs.NameOrder.{names_total}
use Rattle.part_reports.specs.Bounds.{Bounds, begun_at, is_within, parted_at}

-- a name that is less stands before
pub less_of : (a b : Labels) → is_lt (name_cmp a b) ≡ true → name_cmp a b ≡ Less
less_of a b e = by (name_cmp a b) e where
  by : (o : Ordering) → is_lt o ≡ true → o ≡ Less
  by Less e = refl
  by Equal e = absurd (true≢false (sym e))
  by Greater e = absurd (true≢false (sym e))

-- what isn't before a name isn't before an earlier one
not_before_earlier : (from name x : Labels) → name_cmp from name ≡ Less → is_lt (name_cmp x name) ≡ false → is_lt (name_cmp x from) ≡ false
not_before_earlier from name x less e = by (is_lt (name_cmp x from)) refl where
  by : (b : Bool) → is_lt (name_cmp x from) ≡ b → b ≡ false
  by false is = refl
  by true is = absurd (true≢false (sym (ap is_lt (names_total.trans x from name (less_of x from is) less)) ∙ e))

-- of the intervals from here, one has the name, if it isn't before this
once_from : (names : List Labels) (from : Option Labels) (x : Labels) → AreInOrder names
    → ((first : Labels) → from ≡ Some first → (name : Labels) → Contains names name → name_cmp first name ≡ Less)
    → length (filter (λ bounds. is_within bounds x) (parted_at from names)) ≡ cond (begun_at from x) 1 0
once_from [] from x rising begins = by (begun_at from x) where
  by : (b : Bool) → length {A = Bounds} (cond (b && true) (record { from = from; to = None } ∷ []) []) ≡ cond b 1 0
  by true = refl
  by false = refl
once_from (name ∷ names) from x rising begins =
    by (begun_at from x) (is_lt (name_cmp x name)) refl refl
    (once_from names (Some name) x (pairs_rest (λ a b. name_cmp a b ≡ Less) name names rising)
    (λ first same later has. subst (λ (n : Labels). name_cmp n later ≡ Less) (cc)
    (pairs_first (λ a b. name_cmp a b ≡ Less) name names rising later has)))
  where
    earlier : (o : Option Labels) → ((first : Labels) → o ≡ Some first → name_cmp first name ≡ Less) → is_lt (name_cmp x name) ≡ false → begun_at o x ≡ true
    earlier None begins e = refl
    earlier (Some first) begins e = ap not (not_before_earlier first name x (begins first refl) e)

    by : (b lt : Bool) → begun_at from x ≡ b → is_lt (name_cmp x name) ≡ lt
        → length (filter (λ bounds. is_within bounds x) (parted_at (Some name) names)) ≡ cond (not (is_lt (name_cmp x name))) 1 0
        → length {A = Bounds} (cond (b && lt) (record { from = from; to = Some name } ∷ filter (λ bounds. is_within bounds x) (parted_at (Some name) names))
        (filter (λ bounds. is_within bounds x) (parted_at (Some name) names))) ≡ cond b 1 0
    by true true is also rest = ap suc (rest ∙ ap (λ (l : Bool). cond (not l) 1 0) also)
    by true false is also rest = rest ∙ ap (λ (l : Bool). cond (not l) 1 0) also
    by false true is also rest = rest ∙ ap (λ (l : Bool). cond (not l) 1 0) also
    by false false is also rest =
        absurd (true≢false (sym (earlier from (λ first same. begins first same name (has_first name names)) also) ∙ is))

-- each name is in one of the intervals that part at rising names
pub within_once : (names : List Labels) → AreInOrder names → (x : Labels) → count_by (λ bounds. is_within bounds x) (parted_at None names) ≡ 1
within_once names rising x =
    sym (length-filter (λ (bounds : Bounds). is_within bounds x) (parted_at None names))
    ∙ once_from names None x rising (λ first same. absurd (cc))

-- where they don't rise, a name may be in two: f is before m, and not before c
falling : count_by (λ bounds. is_within bounds (codes "f" ∷ [])) (parted_at None ((codes "m" ∷ []) ∷ (codes "c" ∷ []) ∷ [])) ≡ 2
falling = refl
