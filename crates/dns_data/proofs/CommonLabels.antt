-- Labels that two names both begin with, found by the octets that both begin with.
use Rattle.std.proofs.Common.{◌≡◌, ℕ, zero, suc, ◌+◌, ◌-◌, ◌<◌, ◌≤◌, Bool, true, false, cond, nat_eq, List, [], ◌∷◌, ◌++◌, length, take, drop, Ordering, sym, refl, ap, ◌∙◌, subst, get_or, arith}
use Rattle.std.specs.List.{common_prefix_len}
use Rattle.std.specs.Ordering.{nat_cmp, ordering_then}
use Rattle.std.specs.declared.cmp.Ordering.TheVariants.{Less, Equal, Greater}
use Rattle.std.proofs.lemmas.Bool.{eqb-true, eqb-false}
use Rattle.std.proofs.lemmas.List.{take_all, length-take-le, get_or-take}
use Rattle.std.proofs.lemmas.List.Sums.{common_prefix_len-le}
use Rattle.dns_data.specs.Label.{label_eq, label_cmp}
use Rattle.dns_data.specs.Name.{Labels, name_cmp}
use Rattle.dns_data.specs.Encoding.{encoded, labels_of, EncodesName, IsPast}
use Rattle.dns_data.proofs.CommonOctets.{common, common_split, common_take, common_decides}
use Rattle.dns_data.proofs.Encodings.{IsTop, flat_top, flat_room}
use Rattle.dns_data.proofs.Names.{label_eq_decides}
use Rattle.dns_data.proofs.NameOrder.{under_label, same_labels}

-- how many labels both begin with
abbrev both_begin : Labels → Labels → ℕ
both_begin a b = common_prefix_len label_eq a b

-- the first label and what is behind it
top_of : (x : ℕ) (xs : List ℕ) → EncodesName (x ∷ xs) → IsTop (x ∷ xs) (take x xs) (drop x xs)
top_of x xs h =
    let all : take (length (x ∷ xs) - 1) xs ≡ xs = take_all _ xs (omega arith) in
    flat_top (x ∷ xs) (take x xs) (drop x xs) h (omega arith) (sym (ap (take x) all)) (sym (ap (drop x) all))

-- the first label is whole
top_within : (x : ℕ) (xs : List ℕ) → EncodesName (x ∷ xs) → x ≤ length xs
top_within x xs h =
    let all : take (length (x ∷ xs) - 1) xs ≡ xs = take_all _ xs (omega arith) in
    omega (arith, flat_room (x ∷ xs) h (omega arith), ap length all)

-- where both begin with an octet, it is one
first_same : (x y : ℕ) (xs ys : List ℕ) → 0 < common (x ∷ xs) (y ∷ ys) → (x ≡ y) × (common (x ∷ xs) (y ∷ ys) ≡ 1 + common xs ys)
first_same x y xs ys h = by (nat_eq x y) refl h where
  by : (b : Bool) → nat_eq x y ≡ b → 0 < cond b (1 + common xs ys) 0 → (x ≡ y) × (cond b (1 + common xs ys) 0 ≡ 1 + common xs ys)
  by true e h = (eqb-true x y e, refl)
  by false e h = absurd (omega arith)

-- one more label that both begin with
more_of : (a b : Labels) (count x y c : ℕ) (xs ys : List ℕ) → IsPast a b count (x ∷ xs) (y ∷ ys) c → x < c → IsPast a b (count + 1) (drop x xs) (drop x ys) (c - suc x)
more_of a b count x y c xs ys h within =
    let split = common_split (suc x) (x ∷ xs) (y ∷ ys) (omega (arith, h.begin, within)) in
    let heads : y ≡ x = sym (first_same x y xs ys (omega (arith, h.begin, within))).0 in
    let fronts : take x xs ≡ take x ys = ap (drop 1) split.1 in
    let left : IsTop (x ∷ xs) (take x xs) (drop x xs) = top_of x xs h.left in
    let right : IsTop (y ∷ ys) (take x xs) (drop x ys) =
    subst (λ (l : List ℕ). IsTop (y ∷ ys) l (drop x ys)) (sym fronts) (subst (λ (n : ℕ). IsTop (y ∷ ys) (take n ys) (drop n ys)) heads (top_of y ys h.right)) in
    let counts : both_begin (labels_of (x ∷ xs)) (labels_of (y ∷ ys)) ≡ both_begin (take x xs ∷ labels_of (drop x xs)) (take x xs ∷ labels_of (drop x ys)) = λ i. both_begin (left.same i) (right.same i) in
    record {
      left = left.flat;
      right = right.flat;
      order = sym (under_label (take x xs) (labels_of (drop x xs)) (labels_of (drop x ys))) ∙ (λ i. name_cmp (sym left.same i) (sym right.same i)) ∙ h.order;
      passed = omega (arith, h.passed, counts, one_more_label (take x xs) (labels_of (drop x xs)) (labels_of (drop x ys)));
      begin = omega (arith, h.begin, split.0);
    }
  where
    one_more_label : (l : List ℕ) (u v : Labels) → both_begin (l ∷ u) (l ∷ v) ≡ 1 + both_begin u v
    one_more_label l u v = ap (λ (t : Bool). cond t (1 + both_begin u v) 0) ((label_eq_decides l l).1 refl)

-- if two names begin with the same octets past the first label, both have this label, and the rest is compared behind
-- it
pub more : (a b : Labels) (count c : ℕ) (xs ys : List ℕ) → IsPast a b count xs ys c → get_or xs 0 0 < c → IsPast a b (count + 1) (drop (get_or xs 0 0 + 1) xs) (drop (get_or xs 0 0 + 1) ys) (c - (get_or xs 0 0 + 1))
more a b count c [] ys h within = absurd (omega (arith, h.begin))
more a b count c (x ∷ xs) [] h within = absurd (omega (arith, h.begin))
more a b count c (x ∷ xs) (y ∷ ys) h within =
    let size : suc x ≡ x + 1 = omega arith in
    subst (λ (n : ℕ). IsPast a b (count + 1) (drop n (x ∷ xs)) (drop n (y ∷ ys)) (c - n)) size (more_of a b count x y c xs ys h within)

-- the size of the label that both begin with
pub more_fits : (a b : Labels) (count c : ℕ) (xs ys : List ℕ) → IsPast a b count xs ys c → get_or xs 0 0 < c → (get_or xs 0 0 + 1 ≤ length xs) × (get_or xs 0 0 + 1 ≤ length ys)
more_fits a b count c xs ys h within =
    let most = common_prefix_len-le nat_eq xs ys in
    (omega (arith, h.begin, most), omega (arith, h.begin, most))

-- the first octet that differs is in the first label of both
pub record DiffersIn (xs ys : List ℕ) (c : ℕ) : Type 0 where
  pub left : c < length xs
  pub right : c < length ys
  pub order : nat_cmp (get_or xs c 0) (get_or ys c 0) ≡ name_cmp (labels_of xs) (labels_of ys)
  pub none : both_begin (labels_of xs) (labels_of ys) ≡ 0

decided_first : (o after : Ordering) → (o ≡ Equal → ⊥) → o ≡ ordering_then o after
decided_first Less after n = refl
decided_first Equal after n = absurd (n refl)
decided_first Greater after n = refl

-- first labels that aren't one decide
unlike : (l m : List ℕ) (u v : Labels) → (l ≡ m → ⊥) → (label_cmp l m ≡ name_cmp (l ∷ u) (m ∷ v)) × (both_begin (l ∷ u) (m ∷ v) ≡ 0)
unlike l m u v n = (decided_first (label_cmp l m) (name_cmp u v) (λ e. n (same_labels l m e)), by (label_eq l m) refl) where
  by : (b : Bool) → label_eq l m ≡ b → cond b (1 + both_begin u v) 0 ≡ 0
  by true e = absurd (n ((label_eq_decides l m).0 e))
  by false e = refl

-- if two names begin with the same length of a label but not with the whole label, their first octet that differs is in
-- the first label of both
pub differs_in : (xs ys : List ℕ) (c : ℕ) → EncodesName xs → EncodesName ys → c ≡ common xs ys → 0 < c → c ≤ get_or xs 0 0 → DiffersIn xs ys c
differs_in [] ys c h k e some within = absurd (omega (arith, e))
differs_in (x ∷ xs) [] c h k e some within = absurd (omega (arith, e))
differs_in (x ∷ xs) (y ∷ ys) c h k e some within =
    let first = first_same x y xs ys (omega (arith, e)) in
    let place : c ≡ suc (common xs ys) = omega (arith, e, first.1) in
    let room : x ≤ length xs = top_within x xs h in
    let space : x ≤ length ys = omega (arith, first.0, top_within y ys k) in
    let left : IsTop (x ∷ xs) (take x xs) (drop x xs) = top_of x xs h in
    let right : IsTop (y ∷ ys) (take x ys) (drop x ys) = subst (λ (n : ℕ). IsTop (y ∷ ys) (take n ys) (drop n ys)) (sym first.0) (top_of y ys k) in
    let part : common (take x xs) (take x ys) ≡ common xs ys = omega (arith, common_take x xs ys, place) in
    let sizes : length (take x xs) ≡ x = length-take-le x xs room in
    let others : length (take x ys) ≡ x = length-take-le x ys space in
    let decides = common_decides (take x xs) (take x ys) (omega (arith, part, sizes, place)) (omega (arith, part, others, place)) in
    let at : (l : List ℕ) → get_or (take x l) (common (take x xs) (take x ys)) 0 ≡ get_or l (common xs ys) 0 =
    λ l. ap (λ (i : ℕ). get_or (take x l) i 0) part ∙ get_or-take x l (common xs ys) 0 (omega (arith, place)) in
    let differ = unlike (take x xs) (take x ys) (labels_of (drop x xs)) (labels_of (drop x ys)) (λ same. decides.1 (ap (λ (l : List ℕ). get_or l (common (take x xs) (take x ys)) 0) same)) in
    record {
      left = omega (arith, place, room);
      right = omega (arith, place, space);
      order =
          ap (λ (i : ℕ). nat_cmp (get_or (x ∷ xs) i 0) (get_or (y ∷ ys) i 0)) place
          ∙ (λ i. nat_cmp (sym (at xs) i) (sym (at ys) i)) ∙ sym decides.0 ∙ differ.0 ∙ (λ i. name_cmp (sym left.same i) (sym right.same i));
      none = (λ i. both_begin (left.same i) (right.same i)) ∙ differ.1;
    }

-- labels that are one begin with the same octet
apart_from : (l m : List ℕ) (u v : Labels) → common (encoded (l ∷ u)) (encoded (m ∷ v)) ≡ 0 → l ≡ m → ⊥
unfolding encoded
apart_from l m u v e same = by (nat_eq (length l) (length m)) refl e where
  by : (b : Bool) → nat_eq (length l) (length m) ≡ b → cond b (1 + common (l ++ encoded u) (m ++ encoded v)) 0 ≡ 0 → ⊥
  by true is e = absurd (omega (arith, e))
  by false is e = eqb-false _ _ is (ap length same)

none_of : (a b : Labels) → common (encoded a) (encoded b) ≡ 0 → both_begin a b ≡ 0
none_of [] b e = refl
none_of (l ∷ a) [] e = refl
none_of (l ∷ a) (m ∷ b) e = (unlike l m a b (apart_from l m a b e)).1

-- names that begin with no common octet begin with no common label
pub none_begin : (xs ys : List ℕ) → EncodesName xs → EncodesName ys → common xs ys ≡ 0 → both_begin (labels_of xs) (labels_of ys) ≡ 0
none_begin xs ys h k e = none_of (labels_of xs) (labels_of ys) ((λ i. common (h.same i) (k.same i)) ∙ e)

-- the first labels decide the order of names that begin with no common octet
pub first_decide : (xs ys l m : List ℕ) (u v : Labels) → EncodesName xs → EncodesName ys → common xs ys ≡ 0 → labels_of xs ≡ l ∷ u → labels_of ys ≡ m ∷ v
    → label_cmp l m ≡ name_cmp (labels_of xs) (labels_of ys)
first_decide xs ys l m u v h k e is other =
    let none : common (encoded (l ∷ u)) (encoded (m ∷ v)) ≡ 0 = (λ i. common (encoded (sym is i)) (encoded (sym other i))) ∙ (λ i. common (h.same i) (k.same i)) ∙ e in
    (unlike l m u v (apart_from l m u v none)).0 ∙ (λ i. name_cmp (sym is i) (sym other i))

-- no more labels of a name are passed over than it has
pub few_passed : (a b : Labels) (count c : ℕ) (xs ys : List ℕ) → IsPast a b count xs ys c → count ≤ length a
few_passed a b count c xs ys h = omega (arith, h.passed, common_prefix_len-le label_eq a b)

-- if the first octet that differs is in the next label, no further label is common
pub past_end : (a b : Labels) (count c : ℕ) (xs ys : List ℕ) → IsPast a b count xs ys c → (0 < c → c ≤ get_or xs 0 0) → both_begin (labels_of xs) (labels_of ys) ≡ 0
past_end a b count zero xs ys h within = none_begin xs ys h.left h.right (sym h.begin)
past_end a b count (suc c) xs ys h within = (differs_in xs ys (suc c) h.left h.right h.begin (omega arith) (within (omega arith))).none
