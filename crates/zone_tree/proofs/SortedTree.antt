-- What owners in order add to a tree: the owners' prefixes and no other names, each once and in order.
use Rattle.std.proofs.Common.{◌≡◌, ℕ, zero, suc, ◌+◌, ◌≤◌, ◌<◌, Bool, true, false, cond, not, ◌&&◌, ◌⊎◌, List, [], ◌∷◌, ◌++◌, map, length, get_or, take, drop, Contains, filter, IsSorted, Ordering, Less, Equal, Greater, is_lt, is_gt, sym, refl, ap, ◌∙◌, subst, inl, inr, true≢false, arith}
use Rattle.std.specs.List.{common_prefix_len}
use Rattle.std.proofs.lemmas.List.{length-map, get_or-map, drop-map}
use Rattle.dns_data.specs.Label.{label_eq}
use Rattle.dns_data.specs.Name.{Labels, is_prefix, name_cmp}
use Rattle.net_model.specs.Prefix.{prefixes}
use Rattle.zone_tree.specs.Names.{new_prefixes, tree_after}
use Rattle.std.proofs.lemmas.List.Elements.{Contains-append_left, Contains-append_right, Contains-append_cases}
use Rattle.net_model.proofs.Prefixes.{prefixes_have, from_prefixes, length-prefixes}
use Rattle.dns_data.proofs.NameFronts.{is_prefix_tells, is_prefix_told, Begins}
use Rattle.dns_data.proofs.Membership.{none_in_nil, has_first, has_later, first_or_later, filter_has, from_filter, from_map}
use Rattle.dns_data.proofs.NameOrder.{UpTo, Before, Rising, names_total, turned, prefix_up_to, up_to_before, before_up_to, new_prefix_after, rising_append, rising_map, rising_filter}
use Rattle.dns_data.proofs.Names.{same_names}
use Rattle.dns_data.proofs.OrderedLists.{never_before_itself}

-- a name's prefixes stand in order
pub rising_prefixes : (name : Labels) → Rising (prefixes name)
rising_prefixes [] = (λ later has. absurd (none_in_nil later has), tt)
rising_prefixes (label ∷ name) = (
  λ later has. let found = from_map (λ (above : Labels). label ∷ above) (prefixes name) later has in
      subst (Before []) found.2 refl,
  rising_map label (prefixes name) (rising_prefixes name),
)

-- a prefix of a name begins the name before it, or is new
pub old_or_new : (before name above : Labels) → Begins above name → Begins above before ⊎ Contains (new_prefixes before name) above
old_or_new before name above begins = by (is_prefix above before) refl where
  by : (b : Bool) → is_prefix above before ≡ b → Begins above before ⊎ Contains (new_prefixes before name) above
  by true e = inl (is_prefix_tells above before e)
  by false e =
      inr (filter_has (λ (x : Labels). not (is_prefix x before)) (prefixes name) above (prefixes_have name above begins) (ap not e))

-- a new prefix begins its name, and not the name before it
pub from_new : (before name above : Labels) → Contains (new_prefixes before name) above → Begins above name × (Begins above before → ⊥)
from_new before name above has =
    let found = from_filter (λ (x : Labels). not (is_prefix x before)) (prefixes name) above has in (
      from_prefixes name above found.0,
      λ begins. true≢false (sym found.1 ∙ ap not (is_prefix_told above before begins)),
    )

-- a new prefix stands behind the name before its name, and not behind its name
pub new_between : (before name above : Labels) → UpTo before name → Contains (new_prefixes before name) above → Before before above × UpTo above name
new_between before name above le has =
    let found = from_new before name above has in
    let below : Labels = found.0.0 in
    let e : above ++ below ≡ name = found.0.1 in (
      new_prefix_after before above below (subst (UpTo before) (sym e) le) found.1,
      subst (UpTo above) e (prefix_up_to above below),
    )

-- the names stand in order, and the first doesn't stand before the given one
abbrev pub InOrder : Labels → List Labels → Type 0
InOrder before [] = Unit {0}
InOrder before (name ∷ names) = UpTo before name × InOrder name names

-- the names of the tree behind a name stand behind it
pub tree_stands_after : (before : Labels) (names : List Labels) (above : Labels) → InOrder before names → Contains (tree_after before names) above → Before before above
tree_stands_after before [] above order has = absurd (none_in_nil above has)
tree_stands_after before (name ∷ names) above order has =
    elim (Contains-append_cases (new_prefixes before name) (tree_after name names) above has) [
      | inl here ↦ (new_between before name above order.0 here).0
      | inr later ↦ up_to_before before name above order.0 (tree_stands_after name names above order.1 later)
    ]

-- the names of the tree behind a name rise
pub rising_after : (before : Labels) (names : List Labels) → InOrder before names → Rising (tree_after before names)
rising_after before [] order = tt
rising_after before (name ∷ names) order =
    rising_append (new_prefixes before name) (tree_after name names)
    (rising_filter (λ (x : Labels). not (is_prefix x before)) (prefixes name) (rising_prefixes name))
    (rising_after name names order.1)
    (λ x y here there. up_to_before x name y (new_between before name x order.0 here).1 (tree_stands_after name names y order.1 there))

-- the tree behind a name has each prefix of each of the names, but for those that begin that name
pub tree_after_has : (before : Labels) (names : List Labels) (name above : Labels) → Contains names name → Begins above name → Begins above before ⊎ Contains (tree_after before names) above
tree_after_has before [] name above has begins = absurd (none_in_nil name has)
tree_after_has before (first ∷ names) name above has begins =
    elim (first_or_later first names name has) [
      | inl same ↦ at_first (subst (Begins above) (sym same) begins)
      | inr later ↦ at_later (tree_after_has first names name above later begins)
    ]
  where
    at_first : Begins above first → Begins above before ⊎ Contains (tree_after before (first ∷ names)) above
    at_first begins =
        elim (old_or_new before first above begins) [
          | inl old ↦ inl old
          | inr new ↦ inr (Contains-append_left (new_prefixes before first) (tree_after first names) above new)
        ]

    at_later : Begins above first ⊎ Contains (tree_after first names) above → Begins above before ⊎ Contains (tree_after before (first ∷ names)) above
    at_later (inl begins) = at_first begins
    at_later (inr has) = inr (Contains-append_right (new_prefixes before first) (tree_after first names) above has)

-- each name of the tree behind a name begins one of the names
pub from_tree_after : (before : Labels) (names : List Labels) (above : Labels) → Contains (tree_after before names) above → (name : Labels) × Contains names name × Begins above name
from_tree_after before [] above has = absurd (none_in_nil above has)
from_tree_after before (first ∷ names) above has =
    elim (Contains-append_cases (new_prefixes before first) (tree_after first names) above has) [
      | inl here ↦ (first, has_first first names, (from_new before first above here).0)
      | inr later ↦ (let found = from_tree_after first names above later in (found.0, has_later first names found.0 found.1, found.2))
    ]

-- names of which neither stands behind the other are equal
pub both_up_to : (a b : Labels) → UpTo a b → UpTo b a → a ≡ b
both_up_to a b le back = by (name_cmp a b) refl le where
  by : (o : Ordering) → name_cmp a b ≡ o → is_gt o ≡ false → a ≡ b
  by Less e h = absurd (never_before_itself name_cmp names_total a (before_up_to a b a e back))
  by Equal e h = same_names a b e
  by Greater e h = absurd (true≢false h)

-- ---- names in order, as a sort leaves them

one_up : (k : ℕ) → suc k + 1 ≡ suc (k + 1)
one_up k = omega arith

-- sorted names stand in order behind the first
pub in_order_after : (first : Labels) (names : List Labels) → IsSorted name_cmp (first ∷ names) → InOrder first names
in_order_after first [] sorted = tt
in_order_after first (next ∷ names) sorted = (
  ap is_gt (names_total.antisymm first next) ∙ sym (turned (name_cmp next first))
      ∙ sorted 0 [] (omega arith) (omega arith),
  in_order_after next names (λ k d low high.
      subst (λ (m : ℕ). is_lt (name_cmp (get_or (first ∷ next ∷ names) m d) (get_or (next ∷ names) k d)) ≡ false) (one_up k)
      (sorted (suc k) d (omega arith) (omega arith))),
)

-- sorted names at or below an origin stand in order behind it
pub in_order : (origin : Labels) (names : List Labels) → IsSorted name_cmp names → ((name : Labels) → Contains names name → Begins origin name)
    → InOrder origin names
in_order origin [] sorted below = tt
in_order origin (first ∷ names) sorted below =
    let begins = below first (has_first first names) in
    (subst (UpTo origin) begins.1 (prefix_up_to origin begins.0), in_order_after first names sorted)

-- items that are sorted by their names have names that are sorted
pub sorted_names : {X : Type 0} (f : X → Labels) (xs : List X) → IsSorted (λ x y. name_cmp (f x) (f y)) xs → IsSorted name_cmp (map f xs)
sorted_names f [] sorted = λ k d low high. absurd (omega arith)
sorted_names f (x ∷ xs) sorted = λ k d low high.
    let long = length-map (x ∷ xs) f in
    let within : k + 1 < length (x ∷ xs) = omega arith in
    let here : k < length (x ∷ xs) = omega arith in
    let later = get_or-map f (x ∷ xs) (k + 1) x d within in
    let earlier = get_or-map f (x ∷ xs) k x d here in
    rw (later, earlier) (sorted k x low within)

-- ---- new prefixes, one after another

-- every item passes
filter_all : (xs : List Labels) → filter (λ x. true) xs ≡ xs
filter_all [] = refl
filter_all (x ∷ xs) = ap (λ (rest : List Labels). x ∷ rest) (filter_all xs)

-- a filter of a mapped list
filter-map : (test : Labels → Bool) (f : Labels → Labels) (xs : List Labels) → filter test (map f xs) ≡ map f (filter (λ x. test (f x)) xs)
filter-map test f [] = refl
filter-map test f (x ∷ xs) = by (test (f x)) (filter-map test f xs) where
  by : (b : Bool) → filter test (map f xs) ≡ map f (filter (λ x. test (f x)) xs)
      → cond b (f x ∷ filter test (map f xs)) (filter test (map f xs)) ≡ map f (cond b (x ∷ filter (λ x. test (f x)) xs) (filter (λ x. test (f x)) xs))
  by true rest = ap (λ (ys : List Labels). f x ∷ ys) rest
  by false rest = rest

-- the new prefixes are those with more labels than the name shares with the one before it
pub new_from : (before name : Labels) → new_prefixes before name ≡ drop (common_prefix_len label_eq name before + 1) (prefixes name)
new_from before [] = refl
new_from [] (label ∷ name) =
    filter-map (λ (x : Labels). not (is_prefix x [])) (λ (above : Labels). label ∷ above) (prefixes name)
    ∙ ap (map (λ (above : Labels). label ∷ above)) (filter_all (prefixes name))
new_from (other ∷ before) (label ∷ name) =
    filter-map (λ (x : Labels). not (is_prefix x (other ∷ before))) (λ (above : Labels). label ∷ above) (prefixes name)
    ∙ by (label_eq label other) (new_from before name)
  where
    by_one : (n : ℕ) → suc (n + 1) ≡ 1 + n + 1
    by_one n = omega arith

    by : (b : Bool) → new_prefixes before name ≡ drop (common_prefix_len label_eq name before + 1) (prefixes name)
        → map (λ (above : Labels). label ∷ above) (filter (λ x. not (b && is_prefix x before)) (prefixes name))
        ≡ drop (cond b (1 + common_prefix_len label_eq name before) 0 + 1) ([] ∷ map (λ (above : Labels). label ∷ above) (prefixes name))
    by true rest =
        ap (map (λ (above : Labels). label ∷ above)) rest
        ∙ sym (drop-map (λ (above : Labels). label ∷ above) (common_prefix_len label_eq name before + 1) (prefixes name))
        ∙ ap (λ (n : ℕ). drop n ([] ∷ map (λ (above : Labels). label ∷ above) (prefixes name)))
        (by_one (common_prefix_len label_eq name before))
    by false rest = ap (map (λ (above : Labels). label ∷ above)) (filter_all (prefixes name))

-- a prefix by its number of labels
pub prefix_at : (name : Labels) (k : ℕ) (d : Labels) → k ≤ length name → get_or (prefixes name) k d ≡ take k name
prefix_at [] zero d le = refl
prefix_at [] (suc k) d le = absurd (omega arith)
prefix_at (label ∷ name) zero d le = refl
prefix_at (label ∷ name) (suc k) d le =
    let many = length-prefixes name in
    get_or-map (λ (above : Labels). label ∷ above) (prefixes name) k d d (omega arith)
    ∙ ap (λ (above : Labels). label ∷ above) (prefix_at name k d (omega arith))
