-- Names: prefixes, and names that are one.
use Rattle.std.proofs.Common.{◌≡◌, ℕ, zero, suc, ◌+◌, ◌*◌, ◌≤◌, ◌++◌, Bool, true, ◌&&◌, nat_le, List, [], ◌∷◌, length, take, drop, Ordering, sym, refl, ap, ◌∙◌, subst, arith}
use Rattle.std.specs.Prelude.{◌↔◌, sum_by, nat_lt}
use Rattle.std.specs.List.{AllByRecursion, list_all}
use Rattle.std.proofs.lemmas.Bool.{and_parts, and_from, lt-ltb, ltb-true, le-leb, leb-true}
use Rattle.std.proofs.lemmas.List.Sums.{sum_by-cons, sum_by-append}
use Rattle.std.specs.Bool.{IsTrue}
use Rattle.std.specs.Cmp.Lexicographic.{pointwise_decides, bytes_decides, lists_ties, texts_ties}
use Rattle.std.specs.declared.cmp.Ordering.TheVariants.{Less, Equal, Greater}
use Rattle.std.specs.Ordering.{is_eq}
use Rattle.std.proofs.lemmas.List.{take-append-drop, take_at}
use Rattle.dns_data.specs.Label.{IsLabel, is_label_octet, label_eq, label_cmp}
use Rattle.dns_data.specs.Name.{Labels, IsName, wire_octets, name_eq, name_cmp, is_prefix}

-- labels that are one are equal
pub label_eq_decides : (a b : List ℕ) → (label_eq a b ≡ true → a ≡ b) × (a ≡ b → label_eq a b ≡ true)
label_eq_decides = bytes_decides

-- names that are one are equal
pub name_eq_decides : (a b : Labels) → (name_eq a b ≡ true → a ≡ b) × (a ≡ b → name_eq a b ≡ true)
name_eq_decides = pointwise_decides label_eq_decides

-- names of which neither stands before the other are equal
pub same_names : (a b : Labels) → name_cmp a b ≡ Equal → a ≡ b
same_names a b e = (name_eq_decides a b).0 (lists_ties label_cmp texts_ties a b ∙ ap is_eq e)

is_eq-Equal : (o : Ordering) → is_eq o ≡ true → o ≡ Equal
is_eq-Equal Less h = cc
is_eq-Equal Equal h = refl
is_eq-Equal Greater h = cc

-- two names are equal exactly if neither stands before the other
pub name_cmp_equal : (a b : Labels) (o : Ordering) → o ≡ name_cmp a b → (o ≡ Equal) ↔ (a ≡ b)
name_cmp_equal a b o is = (
  λ e. same_names a b (sym is ∙ e),
  λ e. is ∙ is_eq-Equal _ (sym (lists_ties label_cmp texts_ties a b) ∙ (name_eq_decides a b).1 e),
)

-- a name is a prefix of another exactly where labels below it make the other
pub is_prefix_means : (above name : Labels) (r : Bool) → r ≡ is_prefix above name → IsTrue r ↔ ((below : Labels) × (above ++ below ≡ name))
is_prefix_means above name r is = (
  λ holds. let front : above ≡ take (length above) name = (name_eq_decides above (take (length above) name)).0 (sym is ∙ holds) in
      (drop (length above) name, ap (λ (xs : Labels). xs ++ drop (length above) name) front ∙ take-append-drop (length above) name),
  λ (below, e). is ∙ (name_eq_decides above (take (length above) name)).1 (sym (take_at above below (length above) refl) ∙ ap (take (length above)) e),
)

-- labels take at least two octets each
pub two_octets_each : (labels : Labels) → AllByRecursion IsLabel labels → 2 * length labels ≤ sum_by (λ label. length label + 1) labels
two_octets_each [] h = omega arith
two_octets_each (label ∷ labels) h =
    omega (arith, two_octets_each labels h.1, h.0.not_empty, sum_by-cons (λ (xs : List ℕ). length xs + 1) label labels)

-- what holds of all items of two lists holds of all items of the two in a row
pub all_append : {X : Type 0} (P : X → Type 0) (xs ys : List X) → AllByRecursion P xs → AllByRecursion P ys → AllByRecursion P (xs ++ ys)
all_append P [] ys h k = k
all_append P (x ∷ xs) ys h k = (h.0, all_append P xs ys h.1 k)

-- what holds of all items of a list and of one more holds of all with that one at the end
pub all_push : {X : Type 0} (P : X → Type 0) (xs : List X) (x : X) → AllByRecursion P xs → P x → AllByRecursion P (xs ++ x ∷ [])
all_push P xs x h k = all_append P xs (x ∷ []) h (k, tt)

-- what follows for each item holds of all
pub all_so : {X : Type 0} (P Q : X → Type 0) (xs : List X) → ((x : X) → P x → Q x) → AllByRecursion P xs → AllByRecursion Q xs
all_so P Q [] so all = tt
all_so P Q (x ∷ xs) so all = (so x all.0, all_so P Q xs so all.1)

-- names keep being names
pub name_append : (a b : Labels) → AllByRecursion IsLabel a → AllByRecursion IsLabel b → wire_octets (a ++ b) ≤ 255 → IsName (a ++ b)
name_append a b h k short = record { labels = all_append IsLabel a b h k; short = short }

-- what holds of all items of a list holds of its first items
pub all_front : {X : Type 0} (P : X → Type 0) (n : ℕ) (xs : List X) → AllByRecursion P xs → AllByRecursion P (take n xs)
all_front P zero xs h = tt
all_front P (suc n) [] h = tt
all_front P (suc n) (x ∷ xs) h = (h.0, all_front P n xs h.1)

-- the first labels of a name are a name
pub name_front : (n : ℕ) (a : Labels) → IsName a → IsName (take n a)
name_front n a h =
    let size = λ (label : List ℕ). length label + 1 in
    record {
      labels = all_front IsLabel n a h.labels;
      short = omega (arith, h.short, ap (sum_by size) (take-append-drop n a), sum_by-append size (take n a) (drop n a));
    }

-- the root is a name
pub root_is_name : IsName []
root_is_name = record { labels = tt; short = omega arith }

-- what begins a name is a name
pub prefix_is_name : (above name below : Labels) → above ++ below ≡ name → IsName name → IsName above
prefix_is_name above name below e h =
    subst IsName (ap (take (length above)) (sym e) ∙ take_at above below (length above) refl) (name_front (length above) name h)

-- ---- tests of labels and names

-- the test of a label
abbrev pub is_label : List ℕ → Bool
is_label label = nat_lt 0 (length label) && nat_le (length label) 63 && list_all is_label_octet label

-- what passes the test of a label is a label
pub is_label_tells : (label : List ℕ) → is_label label ≡ true → IsLabel label
is_label_tells label e =
    let parts = and_parts _ _ e in
    let sizes = and_parts _ _ parts.0 in
    record { not_empty = ltb-true 0 (length label) sizes.0; short = leb-true (length label) 63 sizes.1; octets = parts.1 }

-- a label passes the test of a label
pub is_label_told : (label : List ℕ) → IsLabel label → is_label label ≡ true
is_label_told label is =
    and_from _ _ (and_from _ _ (lt-ltb 0 (length label) is.not_empty) (le-leb (length label) 63 is.short)) is.octets

-- what all pass are labels
labels_tell : (labels : Labels) → list_all is_label labels ≡ true → AllByRecursion IsLabel labels
labels_tell [] e = tt
labels_tell (label ∷ labels) e =
    let parts = and_parts (is_label label) (list_all is_label labels) e in
    (is_label_tells label parts.0, labels_tell labels parts.1)

-- the test of a name
abbrev pub is_name : Labels → Bool
is_name name = list_all is_label name && nat_le (wire_octets name) 255

-- what passes the test of a name is a name
pub is_name_tells : (name : Labels) → is_name name ≡ true → IsName name
is_name_tells name e =
    let parts = and_parts (list_all is_label name) (nat_le (wire_octets name) 255) e in
    record { labels = labels_tell name parts.0; short = leb-true (wire_octets name) 255 parts.1 }

-- labels all pass
labels_told : (labels : Labels) → AllByRecursion IsLabel labels → list_all is_label labels ≡ true
labels_told [] each = refl
labels_told (label ∷ labels) each = and_from (is_label label) (list_all is_label labels) (is_label_told label each.0) (labels_told labels each.1)

-- a name passes the test of a name
pub is_name_told : (name : Labels) → IsName name → is_name name ≡ true
is_name_told name is =
    and_from (list_all is_label name) (nat_le (wire_octets name) 255) (labels_told name is.labels) (le-leb (wire_octets name) 255 is.short)
