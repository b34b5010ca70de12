-- Buckets with one item more, and what they tell of two items.
use Rattle.std.proofs.Common.{◌≡◌, ℕ, ◌+◌, ◌<◌, ◌*◌, ◌/◌, ◌^◌, Bool, true, false, cond, ◌&&◌, ◌||◌, List, [], ◌∷◌, ◌++◌, length, map, take, filter, get_or, set, All, AllPairs, refl, sym, ap, ◌∙◌, subst, arith, ◌==◌}
use Rattle.std.proofs.lemmas.Bool.{eqb-true, eqb-false}
use Rattle.std.proofs.lemmas.List.{take_more, map-append, get_or-set_other, get_or-take, get_or_default, get_or-map, length-set, length-take, length-map}
use Rattle.std.proofs.lemmas.Grind.{get_or-set_at}
use Rattle.std.proofs.lemmas.List.Elements.{All-push, All-weaker, filter-append}
use Rattle.std.proofs.lemmas.List.Quantifiers.{all_pairs_push}
use Rattle.std.proofs.lemmas.List.Kept.{AllPairs-cons}
use Rattle.dns_data.proofs.Membership.{all_from_contains, filter_has, map_has, pairs_first, pairs_rest}
use Rattle.zone_rules.specs.Buckets.{bucket_with, is_used, has_lone_item, is_contested, bucket_place, bucket_of, has_rival, lower_half, lower_key, lower_keys, Marked, TellsRivals}
use Rattle.zone_rules.specs.declared.buckets.Bucket.{Bucket}
use Rattle.zone_rules.specs.declared.buckets.Bucket.TheVariants.{Empty, Shared, Taken, Contested}

-- ---- a bucket with one item more

with-used : (bucket : Bucket) (is_alone : Bool) → is_used (bucket_with bucket is_alone) ≡ true
with-used Empty true = refl
with-used Empty false = refl
with-used Shared true = refl
with-used Shared false = refl
with-used Taken is_alone = refl
with-used Contested is_alone = refl

with-alone : (bucket : Bucket) → has_lone_item (bucket_with bucket true) ≡ true
with-alone Empty = refl
with-alone Shared = refl
with-alone Taken = refl
with-alone Contested = refl

still-taken : (bucket : Bucket) (is_alone : Bool) → has_lone_item bucket ≡ true → has_lone_item (bucket_with bucket is_alone) ≡ true
still-taken Empty is_alone e = cc
still-taken Shared is_alone e = cc
still-taken Taken is_alone e = refl
still-taken Contested is_alone e = refl

still-contested : (bucket : Bucket) (is_alone : Bool) → is_contested bucket ≡ true → is_contested (bucket_with bucket is_alone) ≡ true
still-contested Empty is_alone e = cc
still-contested Shared is_alone e = cc
still-contested Taken is_alone e = refl
still-contested Contested is_alone e = refl

now-contested : (bucket : Bucket) (was_alone is_alone : Bool) → is_used bucket ≡ true → (was_alone ≡ true → has_lone_item bucket ≡ true) → (was_alone || is_alone) ≡ true → is_contested (bucket_with bucket is_alone) ≡ true
now-contested Empty was_alone is_alone used taken one = cc
now-contested Shared true is_alone used taken one = let e = taken refl in cc
now-contested Shared false true used taken one = refl
now-contested Shared false false used taken one = cc
now-contested Taken was_alone is_alone used taken one = refl
now-contested Contested was_alone is_alone used taken one = refl

-- ---- all buckets with one item more
module _ (old new : List Bucket) (number : ℕ) (is_alone : Bool) (rise : (query : ℕ) → bucket_of new query ≡ cond (bucket_place old query == bucket_place old number) (bucket_with (bucket_of old query) is_alone) (bucket_of old query)) (here : bucket_of new number ≡ bucket_with (bucket_of old number) is_alone) where
  -- what holds of a bucket with one item more as well
  keeps : (holds : Bucket → Bool) → ((bucket : Bucket) → holds bucket ≡ true → holds (bucket_with bucket is_alone) ≡ true) → (query : ℕ) → holds (bucket_of old query) ≡ true → holds (bucket_of new query) ≡ true
  keeps holds still query e = ap holds (rise query) ∙ by (bucket_place old query == bucket_place old number) where
    by : (b : Bool) → holds (cond b (bucket_with (bucket_of old query) is_alone) (bucket_of old query)) ≡ true
    by true = still (bucket_of old query) e
    by false = e

  -- the new buckets tell of the items before and of the one that was put
  pub put-marked : (keys : List (ℕ × Bool)) → Marked old keys → Marked new (keys ++ (number, is_alone) ∷ [])
  put-marked keys marked = record {
    used = All-push (λ key. is_used (bucket_of new key.0) ≡ true) keys (number, is_alone)
        (All-weaker (λ key. is_used (bucket_of old key.0) ≡ true) (λ key. is_used (bucket_of new key.0) ≡ true) (λ key e. keeps is_used (λ bucket _. with-used bucket is_alone) key.0 e) keys marked.used)
        (ap is_used here ∙ with-used (bucket_of old number) is_alone);
    taken = All-push (λ key. key.1 ≡ true → has_lone_item (bucket_of new key.0) ≡ true) keys (number, is_alone)
        (All-weaker (λ key. key.1 ≡ true → has_lone_item (bucket_of old key.0) ≡ true) (λ key. key.1 ≡ true → has_lone_item (bucket_of new key.0) ≡ true) (λ key had e. keeps has_lone_item (λ bucket t. still-taken bucket is_alone t) key.0 (had e)) keys marked.taken)
        (λ e. ap has_lone_item (here ∙ ap (bucket_with (bucket_of old number)) e) ∙ with-alone (bucket_of old number));
    contested = all_pairs_push (λ a b. a.0 ≡ b.0 → (a.1 || b.1) ≡ true → has_rival new b.0 ≡ true) keys (number, is_alone)
        (λ i j d below within same one. keeps is_contested (λ bucket t. still-contested bucket is_alone t) (get_or keys j d).0 (marked.contested i j d below within same one))
        (λ k d within same one.
        ap is_contested here
        ∙ now-contested (bucket_of old number) (get_or keys k d).1 is_alone
        (subst (λ n. is_used (bucket_of old n) ≡ true) same (marked.used k d within))
        (λ e. subst (λ n. has_lone_item (bucket_of old n) ≡ true) same (marked.taken k d within e))
        one);
  }

-- a row of buckets of which one got an item more
module _ (old : List Bucket) (number i : ℕ) (filled : Bucket) (is_alone : Bool) (below : i < length old) (at : i ≡ bucket_place old number) (is : filled ≡ bucket_with (bucket_of old number) is_alone) where
  -- the buckets of other places are as they were
  read : (query : ℕ) (b : Bool) → (bucket_place old query == bucket_place old number) ≡ b → get_or (set old i filled) (bucket_place old query) Empty ≡ cond b (bucket_with (bucket_of old query) is_alone) (bucket_of old query)
  read query true e =
      let same : bucket_place old query ≡ bucket_place old number = eqb-true (bucket_place old query) (bucket_place old number) e in
      get_or-set_at old i (bucket_place old query) filled Empty (same ∙ sym at) below
      ∙ (is ∙ ap (λ place. bucket_with (get_or old place Empty) is_alone) (sym same))
  read query false e =
      get_or-set_other old i (bucket_place old query) filled Empty
      (λ same. eqb-false (bucket_place old query) (bucket_place old number) e (same ∙ at))

  -- the bucket for a number
  rise : (query : ℕ) → bucket_of (set old i filled) query ≡ cond (bucket_place old query == bucket_place old number) (bucket_with (bucket_of old query) is_alone) (bucket_of old query)
  rise query =
      ap (λ n. get_or (set old i filled) (query / 2 ^ 32 * n / 2 ^ 32) Empty) (length-set old i filled)
      ∙ read query (bucket_place old query == bucket_place old number) refl

  -- the bucket that got it
  here : bucket_of (set old i filled) number ≡ bucket_with (bucket_of old number) is_alone
  here =
      ap (λ n. get_or (set old i filled) (number / 2 ^ 32 * n / 2 ^ 32) Empty) (length-set old i filled)
      ∙ (get_or-set_at old i (bucket_place old number) filled Empty (sym at) below ∙ is)

  -- the buckets with the filled one in its place tell of the items before and of the one that was put
  pub set-marked : (keys : List (ℕ × Bool)) → Marked old keys → Marked (set old i filled) (keys ++ (number, is_alone) ∷ [])
  set-marked = put-marked old (set old i filled) number is_alone rise here

-- a bucket that was read is the one for the number
pub bucket-read : (buckets : List Bucket) (number i : ℕ) (bucket : Bucket) → i < length buckets → i ≡ bucket_place buckets number → bucket ≡ get_or buckets i bucket → bucket ≡ bucket_of buckets number
bucket-read buckets number i bucket below at is =
    is
    ∙ (get_or_default buckets i bucket Empty below
    ∙ ap (λ n. get_or buckets n Empty) at)

-- ---- buckets for the upper halves of numbers, and for the lower halves of those that may have a rival there
module _ (upper lower : List Bucket) where
  -- what the upper buckets tell of two keys, the lower ones of two of theirs, and both of two keys
  abbrev told_above : ℕ × Bool → ℕ × Bool → Type 0
  told_above a b = a.0 ≡ b.0 → (a.1 || b.1) ≡ true → has_rival upper b.0 ≡ true

  abbrev told_below : ℕ × Bool → ℕ × Bool → Type 0
  told_below a b = a.0 ≡ b.0 → (a.1 || b.1) ≡ true → has_rival lower b.0 ≡ true

  abbrev told : ℕ × Bool → ℕ × Bool → Type 0
  told a b = a.0 ≡ b.0 → (a.1 || b.1) ≡ true → (has_rival upper b.0 && has_rival lower (lower_half b.0)) ≡ true

  abbrev left : List (ℕ × Bool) → List (ℕ × Bool)
  left keys = filter (λ key. has_rival upper key.0) keys

  -- the lower keys behind the first
  behind-first : (key : ℕ × Bool) (keys : List (ℕ × Bool)) (b : Bool) → AllPairs told_below (map lower_key (cond b (key ∷ left keys) (left keys))) → AllPairs told_below (map lower_key (left keys))
  behind-first key keys true below = pairs_rest told_below (lower_key key) (map lower_key (left keys)) below
  behind-first key keys false below = below

  -- where the upper buckets tell of each pair of keys, and the lower ones of each pair that these leave, both together tell
  -- of each pair
  pub told-by-both : (keys : List (ℕ × Bool)) → AllPairs told_above keys → AllPairs told_below (lower_keys (has_rival upper) keys) → AllPairs told keys
  told-by-both [] above below = λ i j d early within. let none : ⊥ = omega (arith, within) in absurd none
  told-by-both (key ∷ keys) above below =
      AllPairs-cons told key keys
      (all_from_contains (told key) keys
      (λ later has same one.
      let up : has_rival upper later.0 ≡ true = pairs_first told_above key keys above later has same one in
      let here : has_rival upper key.0 ≡ true = ap (has_rival upper) same ∙ up in
      let first_is = subst (λ b. AllPairs told_below (map lower_key (cond b (key ∷ left keys) (left keys)))) here below in
      let low = pairs_first told_below (lower_key key) (map lower_key (left keys)) first_is (lower_key later)
      (map_has lower_key (left keys) later (filter_has (λ other. has_rival upper other.0) keys later has up)) (ap lower_half same) one in
      (λ j. up j && low j)))
      (told-by-both keys (pairs_rest told_above key keys above) (behind-first key keys (has_rival upper key.0) below))

-- ---- keys in order, and one more
module _ (keys : List (ℕ × Bool)) (i : ℕ) (below : i < length keys) where
  -- the tests of the first keys and that of the next are the tests of all of them
  pub told-more : (test : ℕ × Bool → Bool) → map test (take i keys) ++ test (get_or keys i (0, false)) ∷ [] ≡ map test (take (i + 1) keys)
  told-more test =
      sym (map-append test (take i keys) (get_or keys i (0, false) ∷ []))
      ∙ ap (map test) (sym (take_more keys i (0, false) below))

-- the lower keys of the items before, with that of the next if it may have a rival, are those of the items up to it
pub lower-more : (may : ℕ → Bool) (keys : List (ℕ × Bool)) (i : ℕ) (b : Bool) (lower : List (ℕ × Bool)) → i < length keys → lower ≡ lower_keys may (take i keys) → b ≡ may (get_or keys i (0, false)).0
    → lower ++ map lower_key (filter (λ _. b) (get_or keys i (0, false) ∷ [])) ≡ lower_keys may (take (i + 1) keys)
lower-more may keys i b lower below so_far is =
    let key : ℕ × Bool = get_or keys i (0, false) in
    let test : ℕ × Bool → Bool = λ other. may other.0 in
    (λ j. so_far j ++ map lower_key (filter (λ _. is j) (key ∷ [])))
    ∙ (sym (map-append lower_key (filter test (take i keys)) (filter test (key ∷ [])))
    ∙ ap (map lower_key) (sym (filter-append test (take i keys) (key ∷ [])) ∙ ap (filter test) (sym (take_more keys i (0, false) below))))

-- ---- the keys of items in order
module _ {A : Type 0} (key : A → ℕ × Bool) (items : List A) (i : ℕ) (item : A) (below : i < length items) (is : item ≡ get_or items i item) where
  -- the number of the next key is that of the next item
  pub read-next : (keys : List (ℕ × Bool)) (read : ℕ × Bool) → keys ≡ map key items → read ≡ get_or keys i read → read.0 ≡ (key item).0
  read-next keys read says is_read =
      ap (λ k. k.0) (is_read ∙ (ap (λ all. get_or all i read) says ∙ (get_or-map key items i item read below ∙ ap key (sym is))))

  -- what was said of the next key is the test of the next item
  pub said-next : (test : A → Bool) (said : List Bool) (b : Bool) → said ≡ map test items → b ≡ get_or said i b → b ≡ test item
  said-next test said b says read =
      read ∙ (ap (λ all. get_or all i b) says ∙ (get_or-map test items i item b below ∙ ap test (sym is)))

  -- an item before the next one, with the same number, of which one has to stand alone
  pub rivals-before : (may : ℕ → Bool) → TellsRivals may (map key items)
      → All (λ before. (key before).0 ≡ (key item).0 → ((key before).1 || (key item).1) ≡ true → may (key item).0 ≡ true) (take i items)
  rivals-before may tells = λ k d within.
      let early : k < i = omega (arith, within, length-take i items, below) in
      let earlier : get_or (take i items) k d ≡ get_or items k d = get_or-take i items k d early in
      let said = tells k i (key item) early (subst (λ n. i < n) (sym (length-map items key)) below) in
      let first : get_or (map key items) k (key item) ≡ key (get_or (take i items) k d) = get_or-map key items k d (key item) (omega (arith, early, below)) ∙ ap key (sym earlier) in
      let second : get_or (map key items) i (key item) ≡ key item = get_or-map key items i item (key item) below ∙ ap key (sym is) in
      subst (λ b. b.0 ≡ (key item).0 → (b.1 || (key item).1) ≡ true → may (key item).0 ≡ true) first
      (subst (λ b. (get_or (map key items) k (key item)).0 ≡ b.0 → ((get_or (map key items) k (key item)).1 || b.1) ≡ true → may b.0 ≡ true) second said)
