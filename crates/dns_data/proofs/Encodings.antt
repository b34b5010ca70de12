-- The octets in which a name keeps its labels.
use Rattle.std.proofs.Common.{◌≡◌, ℕ, zero, suc, ◌+◌, ◌-◌, ◌≤◌, ◌++◌, nat_eq, List, [], ◌∷◌, length, take, drop, sym, refl, ap, ◌∙◌, append_assoc, subst, get_or, arith}
use Rattle.std.specs.Prelude.{sum_by, slice_set}
use borrow.Rule.Slice.PartMut.{put_mid}
use Rattle.std.proofs.lemmas.List.{append-nil, drop-drop, length-drop, drop_all, take_at, drop_at, length-append, take-append-drop, take_all}
use Rattle.std.proofs.Math.Seq.{take-add}
use Rattle.std.proofs.lemmas.List.Sums.{sum_by-cons, sum_by-append}
use Rattle.std.specs.List.{starts_with}
use Rattle.std.specs.Cmp.Lexicographic.{bytes_decides}
use lib.Pointwise.{pointwise}
use Rattle.std.specs.List.{AllByRecursion}
use Rattle.dns_data.specs.Label.{IsLabel}
use Rattle.dns_data.specs.Name.{Labels, IsName, wire_octets, is_prefix, name_eq}
use Rattle.dns_data.proofs.Names.{name_append, is_prefix_means, name_eq_decides, two_octets_each, name_front}
use Rattle.dns_data.proofs.Searches.{same_truth}
use Rattle.dns_data.specs.Encoding.{encoded, labels_in, labels_of, EncodesName}

-- the octets of labels in a row are those of the first labels and then those of the others
pub encoded_append : (a b : Labels) → encoded (a ++ b) ≡ encoded a ++ encoded b
unfolding encoded
encoded_append [] b = refl
encoded_append (x ∷ a) b = ap (λ (r : List ℕ). length x ∷ (x ++ r)) (encoded_append a b) ∙ ap (λ (r : List ℕ). length x ∷ r) (sym (append_assoc x (encoded a) (encoded b)))

-- an encoding's labels, where fuel is enough
pub decodes_in : (n : ℕ) (a : Labels) → length (encoded a) ≤ n → labels_in n (encoded a) ≡ a
unfolding encoded labels_in
decodes_in zero [] h = refl
decodes_in zero (x ∷ a) h = absurd (omega (arith, h))
decodes_in (suc n) [] h = refl
decodes_in (suc n) (x ∷ a) h =
    let short : length (encoded a) ≤ n = omega (arith, h, length-append x (encoded a)) in
    ap (λ (y : List ℕ). y ∷ labels_in n (drop (length x) (x ++ encoded a))) (take_at x (encoded a) (length x) refl)
    ∙ ap (λ (r : List ℕ). x ∷ labels_in n r) (drop_at x (encoded a) (length x) refl) ∙ ap (λ (r : Labels). x ∷ r) (decodes_in n a short)

-- the labels of an encoding are those that were encoded
pub decodes : (a : Labels) → labels_of (encoded a) ≡ a
decodes a = decodes_in (length (encoded a)) a (omega arith)

-- the encoding of a list is as long as its labels with one for each
pub encoded_length : (a : Labels) → length (encoded a) ≡ sum_by (λ label. length label + 1) a
unfolding encoded
encoded_length [] = refl
encoded_length (x ∷ a) = omega (arith, length-append x (encoded a), encoded_length a, sum_by-cons (λ (xs : List ℕ). length xs + 1) x a)

-- flat names are the encodings of their labels, whose octets are at most 254
pub flat_length : (octets : List ℕ) → EncodesName octets → (length octets + 1 ≡ wire_octets (labels_of octets)) × (length octets ≤ 254)
flat_length octets flat =
    let size : length octets ≡ sum_by (λ label. length label + 1) (labels_of octets) = sym (ap length flat.same) ∙ encoded_length (labels_of octets) in
    (omega (arith, size), omega (arith, size, flat.name.short))

-- the octets of two names, one after the other, are those of the labels of both
pub flat_join : (a b : List ℕ) → EncodesName a → EncodesName b → length a + length b ≤ 254 → EncodesName (a ++ b) × (labels_of (a ++ b) ≡ labels_of a ++ labels_of b)
flat_join a b h k room =
    let both : a ++ b ≡ encoded (labels_of a ++ labels_of b) = sym (encoded_append (labels_of a) (labels_of b) ∙ ap (λ (r : List ℕ). r ++ encoded (labels_of b)) h.same ∙ ap (λ (r : List ℕ). a ++ r) k.same) in
    let size : length (a ++ b) ≡ sum_by (λ label. length label + 1) (labels_of a ++ labels_of b) = ap length both ∙ encoded_length (labels_of a ++ labels_of b) in
    let short : wire_octets (labels_of a ++ labels_of b) ≤ 255 = omega (arith, size, room, length-append a b) in
    let labels : labels_of (a ++ b) ≡ labels_of a ++ labels_of b = ap labels_of both ∙ decodes (labels_of a ++ labels_of b) in
    (record { same = ap encoded labels ∙ sym both; name = subst IsName (sym labels) (name_append (labels_of a) (labels_of b) h.name.labels k.name.labels short) }, labels)

-- the octets of a name begin those of another only where its labels begin the other's
pub encoded_front : (a b : Labels) (rest : List ℕ) → encoded a ++ rest ≡ encoded b → (below : Labels) × (a ++ below ≡ b)
unfolding encoded
encoded_front [] b rest e = (b, refl)
encoded_front (x ∷ a) [] rest e = cc
encoded_front (x ∷ a) (y ∷ b) rest e =
    let tails : x ++ (encoded a ++ rest) ≡ y ++ encoded b = sym (append_assoc x (encoded a) rest) ∙ ap (drop 1) e in
    let sizes : length x ≡ length y = ap (λ (l : List ℕ). get_or l 0 0) e in
    let tops : x ≡ y = sym (take_at x (encoded a ++ rest) (length x) refl) ∙ ap (take (length x)) tails ∙ take_at y (encoded b) (length x) (sym sizes) in
    let after : encoded a ++ rest ≡ encoded b = sym (drop_at x (encoded a ++ rest) (length x) refl) ∙ ap (drop (length x)) tails ∙ drop_at y (encoded b) (length x) (sym sizes) in
    let (below, found) = encoded_front a b rest after in
    (below, ap (λ (l : Labels). x ∷ l) found ∙ ap (λ (l : List ℕ). l ∷ b) tops)

-- the octets of one name begin those of another exactly if its labels begin the other's
pub octets_begin : (a b : List ℕ) → EncodesName a → EncodesName b → starts_with nat_eq b a ≡ is_prefix (labels_of a) (labels_of b)
octets_begin a b h k = same_truth _ _
    (λ begins. let front : a ≡ take (length a) b = (bytes_decides a (take (length a) b)).0 begins in
    let whole : encoded (labels_of a) ++ drop (length a) b ≡ encoded (labels_of b) = ap (λ (r : List ℕ). r ++ drop (length a) b) (h.same ∙ front) ∙ take-append-drop (length a) b ∙ sym k.same in
    (is_prefix_means (labels_of a) (labels_of b) (is_prefix (labels_of a) (labels_of b)) refl).1 (encoded_front (labels_of a) (labels_of b) (drop (length a) b) whole))
    (λ begins. let (below, e) = (is_prefix_means (labels_of a) (labels_of b) (is_prefix (labels_of a) (labels_of b)) refl).0 begins in
    let whole : a ++ encoded below ≡ b = ap (λ (r : List ℕ). r ++ encoded below) (sym h.same) ∙ sym (encoded_append (labels_of a) below) ∙ ap encoded e ∙ k.same in
    (bytes_decides a (take (length a) b)).1 (sym (take_at a (encoded below) (length a) refl) ∙ ap (take (length a)) whole))

-- no octets are the root's
pub flat_root : EncodesName [] × (labels_of [] ≡ [])
unfolding encoded labels_in
flat_root = (record { same = refl; name = record { labels = tt; short = omega arith } }, refl)

-- the encoding of a name is flat
pub flat_of : (a : Labels) → IsName a → EncodesName (encoded a)
flat_of a h = record { same = ap encoded (decodes a); name = subst IsName (sym (decodes a)) h }

-- what is below the top of a name is a name
pub name_below : (x : List ℕ) (a : Labels) → IsName (x ∷ a) → IsLabel x × IsName a
name_below x a h = (h.labels.0, record { labels = h.labels.1; short = omega (arith, h.short, sum_by-cons (λ (xs : List ℕ). length xs + 1) x a) })

-- the top label of octets and the octets below it
pub record IsTop (octets front back : List ℕ) : Type 0 where
  pub same : labels_of octets ≡ front ∷ labels_of back
  pub label : IsLabel front
  pub flat : EncodesName back

-- the octets of the labels, from the count of the first on
pub record IsSplit (octets front back : List ℕ) : Type 0 where
  pub within : get_or octets 0 0 ≤ length (take (length octets - 1) (drop 1 octets))
  pub first : take (get_or octets 0 0) (take (length octets - 1) (drop 1 octets)) ≡ front
  pub after : drop (get_or octets 0 0) (take (length octets - 1) (drop 1 octets)) ≡ back

encoded_split : (x : List ℕ) (a : Labels) → IsSplit (encoded (x ∷ a)) x (encoded a)
unfolding encoded
encoded_split x a =
    let all : take (length (length x ∷ (x ++ encoded a)) - 1) (x ++ encoded a) ≡ x ++ encoded a = take_all _ _ (omega arith) in
    record {
      within = omega (arith, ap length all, length-append x (encoded a));
      first = ap (take (length x)) all ∙ take_at x (encoded a) (length x) refl;
      after = ap (drop (length x)) all ∙ drop_at x (encoded a) (length x) refl;
    }

split_of : (a : Labels) (octets : List ℕ) → IsName a → octets ≡ encoded a → 1 ≤ length octets → (front : List ℕ) × (back : List ℕ) × (IsSplit octets front back × IsTop octets front back)
unfolding encoded
split_of [] octets h e some = absurd (omega (arith, ap length e))
split_of (x ∷ a) octets h e some =
    let (label, below) = name_below x a h in (
      x,
      encoded a,
      subst (λ (o : List ℕ). IsSplit o x (encoded a) × IsTop o x (encoded a)) (sym e)
          (encoded_split x a, record { same = decodes (x ∷ a) ∙ ap (λ (l : Labels). x ∷ l) (sym (decodes a)); label = label; flat = flat_of a below }),
    )

-- flat octets have as many as their first counts
pub flat_room : (octets : List ℕ) → EncodesName octets → 1 ≤ length octets → get_or octets 0 0 ≤ length (take (length octets - 1) (drop 1 octets))
flat_room octets h some =
    let (front, back, both) = split_of (labels_of octets) octets h.name (sym h.same) some in both.0.within

-- flat octets, split behind the label that the first counts
pub flat_top : (octets front back : List ℕ) → EncodesName octets → 1 ≤ length octets → front ≡ take (get_or octets 0 0) (take (length octets - 1) (drop 1 octets)) → back ≡ drop (get_or octets 0 0) (take (length octets - 1) (drop 1 octets)) → IsTop octets front back
flat_top octets front back h some f b =
    let (x, rest, both) = split_of (labels_of octets) octets h.name (sym h.same) some in
    subst (λ (r : List ℕ). IsTop octets front r) (sym (b ∙ both.0.after)) (subst (λ (r : List ℕ). IsTop octets r rest) (sym (f ∙ both.0.first)) both.1)

-- no octets have no labels, and some have some
pub flat_empty : (octets : List ℕ) (a : Labels) → EncodesName octets → labels_of octets ≡ a → (length octets ≡ 0 → a ≡ []) × (a ≡ [] → length octets ≡ 0)
unfolding encoded labels_in
flat_empty [] a h e = (λ _. sym e, λ _. refl)
flat_empty (n ∷ octets) a h e = (λ z. absurd (omega arith), λ none. ap length (sym h.same ∙ ap encoded (e ∙ none)))

-- the octets of two names on the wire
pub join_size : (a b : List ℕ) (l m : Labels) → EncodesName a → EncodesName b → labels_of a ≡ l → labels_of b ≡ m → wire_octets (l ++ m) ≡ length a + length b + 1
join_size a b l m h k e f =
    let left : wire_octets l ≡ length a + 1 = ap wire_octets (sym e) ∙ sym (flat_length a h).0 in
    let right : wire_octets m ≡ length b + 1 = ap wire_octets (sym f) ∙ sym (flat_length b k).0 in
    omega (arith, left, right, sum_by-append (λ (xs : List ℕ). length xs + 1) l m)

-- the octets are those of a name with a label below it
pub record IsPush (octets : List ℕ) (name : Labels) (x : List ℕ) : Type 0 where
  pub size : wire_octets (name ++ x ∷ []) ≡ length octets + length x + 2
  pub same : wire_octets (name ++ x ∷ []) ≤ 255 → labels_of (octets ++ length x ∷ x) ≡ name ++ x ∷ []
  pub flat : wire_octets (name ++ x ∷ []) ≤ 255 → EncodesName (octets ++ length x ∷ x)

one_encoded : (x : List ℕ) → length x ∷ x ≡ encoded (x ∷ [])
unfolding encoded
one_encoded x = ap (λ (r : List ℕ). length x ∷ r) (sym (append-nil x))

-- the octets of a name with a label's length and octets behind them are those of the name with the label below it, unless
-- that is too long
pub flat_push : (octets : List ℕ) (name : Labels) (x : List ℕ) → EncodesName octets → labels_of octets ≡ name → IsLabel x → IsPush octets name x
flat_push octets name x h e label =
    let whole : octets ++ length x ∷ x ≡ encoded (name ++ x ∷ []) = ap (λ (r : List ℕ). octets ++ r) (one_encoded x) ∙ ap (λ (r : List ℕ). r ++ encoded (x ∷ [])) (sym h.same ∙ ap encoded e) ∙ sym (encoded_append name (x ∷ [])) in
    let size : length (octets ++ length x ∷ x) ≡ sum_by (λ label. length label + 1) (name ++ x ∷ []) = ap length whole ∙ encoded_length (name ++ x ∷ []) in
    let named : AllByRecursion IsLabel name = subst (AllByRecursion IsLabel) e h.name.labels in
    record {
      size = omega (arith, size, length-append octets (length x ∷ x));
      same = λ short. ap labels_of whole ∙ decodes (name ++ x ∷ []);
      flat = λ short. subst EncodesName (sym whole) (flat_of (name ++ x ∷ []) (name_append name (x ∷ []) named (label, tt) short));
    }

-- a label's length and its octets, as they are put behind each other, are the label's encoding
pub label_put : (out label ys : List ℕ) (n : ℕ) → length out ≡ length label + 1 → ys ≡ label → put_mid 1 (length (slice_set out 0 n) - 1) (slice_set out 0 n) ys ≡ n ∷ label
label_put [] label ys n room e = absurd (omega arith)
label_put (o ∷ os) label ys n room e =
    ap (λ (r : List ℕ). n ∷ r) (ap (λ (r : List ℕ). ys ++ r) (drop_all _ os (omega arith)) ∙ append-nil ys ∙ e)

-- the octets of two names are the same exactly if the names are
pub octets_same : (a b : List ℕ) → EncodesName a → EncodesName b → pointwise nat_eq a b ≡ name_eq (labels_of a) (labels_of b)
octets_same a b h k = same_truth _ _
    (λ same. (name_eq_decides (labels_of a) (labels_of b)).1 (ap labels_of ((bytes_decides a b).0 same)))
    (λ same. (bytes_decides a b).1 (sym h.same ∙ ap encoded ((name_eq_decides (labels_of a) (labels_of b)).0 same) ∙ k.same))

-- a name has at most 127 labels
pub few_labels : (octets : List ℕ) → EncodesName octets → length (labels_of octets) ≤ 127
few_labels octets h = omega (arith, two_octets_each (labels_of octets) h.name.labels, h.name.short)

-- so many of a name's labels were passed over, which take so many octets, and these are left
pub record IsPassed (whole rest : Labels) (count passed : ℕ) : Type 0 where
  pub left : rest ≡ drop count whole
  pub octets : passed ≡ length (encoded (take count whole))

-- at first no label was passed over
pub passed_none : (whole : Labels) → IsPassed whole whole 0 0
unfolding encoded
passed_none whole = record { left = refl; octets = refl }

-- with a label more those that were passed over take its octets and one for its length besides
pub passed_more : (whole rest below : Labels) (count passed : ℕ) (label : List ℕ) → IsPassed whole rest count passed → rest ≡ label ∷ below → IsPassed whole below (count + 1) (passed + (length label + 1))
passed_more whole rest below count passed label h e =
    let behind : drop count whole ≡ label ∷ below = sym h.left ∙ e in
    let front : take (count + 1) whole ≡ take count whole ++ label ∷ [] = take-add count 1 whole ∙ ap (λ (r : Labels). take count whole ++ take 1 r) behind in
    let octets : encoded (take (count + 1) whole) ≡ encoded (take count whole) ++ length label ∷ label = ap encoded front ∙ encoded_append (take count whole) (label ∷ []) ∙ ap (λ (r : List ℕ). encoded (take count whole) ++ r) (sym (one_encoded label)) in
    record {
      left = sym (sym (drop-drop 1 count whole) ∙ ap (drop 1) behind);
      octets = omega (arith, h.octets, ap length octets, length-append (encoded (take count whole)) (length label ∷ label));
    }

-- how many octets those passed over have with those that are left
both_parts : (octets : List ℕ) (count : ℕ) → EncodesName octets → octets ≡ encoded (take count (labels_of octets)) ++ encoded (drop count (labels_of octets))
both_parts octets count h =
    sym h.same ∙ ap encoded (sym (take-append-drop count (labels_of octets))) ∙ encoded_append (take count (labels_of octets)) (drop count (labels_of octets))

-- the labels that were passed over take no more octets than the name
pub passed_within : (octets : List ℕ) (whole rest : Labels) (count passed : ℕ) → EncodesName octets → labels_of octets ≡ whole → IsPassed whole rest count passed → passed ≤ length octets
passed_within octets whole rest count passed h e p =
    let start : passed ≡ length (encoded (take count (labels_of octets))) = p.octets ∙ ap (λ (l : Labels). length (encoded (take count l))) (sym e) in
    omega (arith, start, ap length (both_parts octets count h), length-append (encoded (take count (labels_of octets))) (encoded (drop count (labels_of octets))))

-- the octets of the labels that were passed over
pub record IsFront (octets : List ℕ) (whole : Labels) (count passed : ℕ) : Type 0 where
  pub name : EncodesName (take passed octets)
  pub labels : labels_of (take passed octets) ≡ take count whole

-- the octets of the labels that were passed over are those of the name that they make
pub front_of : (octets : List ℕ) (whole rest : Labels) (count passed : ℕ) → EncodesName octets → labels_of octets ≡ whole → IsPassed whole rest count passed → IsFront octets whole count passed
front_of octets whole rest count passed h e p =
    let start : Labels = take count (labels_of octets) in
    let size : length (encoded start) ≡ passed = sym (p.octets ∙ ap (λ (l : Labels). length (encoded (take count l))) (sym e)) in
    let front : take passed octets ≡ encoded start = ap (take passed) (both_parts octets count h) ∙ take_at (encoded start) (encoded (drop count (labels_of octets))) passed size in
    record {
      name = subst EncodesName (sym front) (flat_of start (name_front count (labels_of octets) h.name));
      labels = ap labels_of front ∙ decodes start ∙ ap (take count) e;
    }

-- if no label of a name is left, all were passed over
pub all_passed : (whole rest : Labels) (count passed most : ℕ) → IsPassed whole rest count passed → rest ≡ [] → count ≤ most → take most whole ≡ whole
all_passed whole rest count passed most p none within =
    take_all most whole (omega (arith, ap length (sym p.left ∙ none), length-drop count whole))
