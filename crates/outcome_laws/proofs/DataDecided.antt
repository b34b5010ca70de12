-- Whether two JSON values are one is decided.
use Rattle.std.proofs.Common.{◌≡◌, ◌∙◌, ℕ, Bool, true, false, ◌&&◌, refl, ap, subst}
use Rattle.std.specs.Prelude.{ℤ, Float}
use Rattle.std.proofs.lemmas.Bool.{and_parts}
use lib.Ieee.{nan, inf, fin}
use lib.IntN.{pos, negsuc}
use Rattle.dns_data.specs.Label.{label_eq}
use Rattle.dns_data.proofs.Names.{label_eq_decides}
use Rattle.query_classes.proofs.Decided.{Decided, by_test}
use Rattle.query_verdicts.proofs.Decided.{same_bool, same_number}
use Rattle.serde_json.specs.Data.{Num, unsigned, negative, float, Data, null, boolean, number, string, array, object, Items, no_items, item, Members, no_members, member}
use Rattle.outcome_laws.proofs.ClassesDecided.{test_of, by_test_of, test_of_by}

-- ---- numbers

abbrev bool_same : Bool → Bool → Bool
bool_same a b = test_of (same_bool a b)

abbrev nat_same : ℕ → ℕ → Bool
nat_same a b = test_of (same_number a b)

abbrev int_same : ℤ → ℤ → Bool
int_same (pos a) (pos b) = nat_same a b
int_same (negsuc a) (negsuc b) = nat_same a b
int_same a b = false

abbrev float_same : Float → Float → Bool
float_same nan nan = true
float_same (inf a) (inf b) = bool_same a b
float_same (fin a m e) (fin b n f) = bool_same a b && (nat_same m n && int_same e f)
float_same a b = false

abbrev num_same : Num → Num → Bool
num_same (unsigned a) (unsigned b) = nat_same a b
num_same (negative a) (negative b) = int_same a b
num_same (float a) (float b) = float_same a b
num_same a b = false

both_true : (a b : Bool) → a ≡ true → b ≡ true → (a && b) ≡ true
both_true a b p q = ap (λ (x : Bool). x && b) p ∙ q

int_told : (a b : ℤ) → int_same a b ≡ true → a ≡ b
int_told (pos a) (pos b) e = ap pos (by_test_of (same_number a b) e)
int_told (negsuc a) (negsuc b) e = ap negsuc (by_test_of (same_number a b) e)
int_told _ _ e = cc

int_itself : (a : ℤ) → int_same a a ≡ true
int_itself (pos a) = test_of_by (same_number a a) refl
int_itself (negsuc a) = test_of_by (same_number a a) refl

float_told : (a b : Float) → float_same a b ≡ true → a ≡ b
float_told nan nan e = refl
float_told (inf a) (inf b) e = ap inf (by_test_of (same_bool a b) e)
float_told (fin a m e) (fin b n f) same =
    let sign : a ≡ b = by_test_of (same_bool a b) (and_parts (bool_same a b) (nat_same m n && int_same e f) same).0 in
    let rest = and_parts (nat_same m n) (int_same e f) (and_parts (bool_same a b) (nat_same m n && int_same e f) same).1 in
    let significand : m ≡ n = by_test_of (same_number m n) rest.0 in
    let exponent : e ≡ f = int_told e f rest.1 in
    cc
float_told _ _ e = cc

float_itself : (a : Float) → float_same a a ≡ true
float_itself nan = refl
float_itself (inf a) = test_of_by (same_bool a a) refl
float_itself (fin a m e) =
    both_true (bool_same a a) (nat_same m m && int_same e e) (test_of_by (same_bool a a) refl)
    (both_true (nat_same m m) (int_same e e) (test_of_by (same_number m m) refl) (int_itself e))

num_told : (a b : Num) → num_same a b ≡ true → a ≡ b
num_told (unsigned a) (unsigned b) e = ap unsigned (by_test_of (same_number a b) e)
num_told (negative a) (negative b) e = ap negative (int_told a b e)
num_told (float a) (float b) e = ap float (float_told a b e)
num_told _ _ e = cc

num_itself : (a : Num) → num_same a a ≡ true
num_itself (unsigned a) = test_of_by (same_number a a) refl
num_itself (negative a) = int_itself a
num_itself (float a) = float_itself a

-- ---- values

abbrev mutual
  value_same : Data → Data → Bool
  value_same null null = true
  value_same (boolean a) (boolean b) = bool_same a b
  value_same (number a) (number b) = num_same a b
  value_same (string a) (string b) = label_eq a b
  value_same (array a) (array b) = items_same a b
  value_same (object a) (object b) = members_same a b
  value_same a b = false

  items_same : Items → Items → Bool
  items_same no_items no_items = true
  items_same (item a rest) (item b more) = value_same a b && items_same rest more
  items_same a b = false

  members_same : Members → Members → Bool
  members_same no_members no_members = true
  members_same (member k a rest) (member l b more) = label_eq k l && (value_same a b && members_same rest more)
  members_same a b = false

mutual
  value_told : (a b : Data) → value_same a b ≡ true → a ≡ b
  value_told null null e = refl
  value_told (boolean a) (boolean b) e = ap boolean (by_test_of (same_bool a b) e)
  value_told (number a) (number b) e = ap number (num_told a b e)
  value_told (string a) (string b) e = ap string ((label_eq_decides a b).0 e)
  value_told (array a) (array b) e = ap array (items_told a b e)
  value_told (object a) (object b) e = ap object (members_told a b e)
  value_told _ _ e = cc

  items_told : (a b : Items) → items_same a b ≡ true → a ≡ b
  items_told no_items no_items e = refl
  items_told (item a rest) (item b more) e =
      let parts = and_parts (value_same a b) (items_same rest more) e in
      let first : a ≡ b = value_told a b parts.0 in
      let others : rest ≡ more = items_told rest more parts.1 in
      cc
  items_told _ _ e = cc

  members_told : (a b : Members) → members_same a b ≡ true → a ≡ b
  members_told no_members no_members e = refl
  members_told (member k a rest) (member l b more) e =
      let parts = and_parts (label_eq k l) (value_same a b && members_same rest more) e in
      let later = and_parts (value_same a b) (members_same rest more) parts.1 in
      let key : k ≡ l = (label_eq_decides k l).0 parts.0 in
      let first : a ≡ b = value_told a b later.0 in
      let others : rest ≡ more = members_told rest more later.1 in
      cc
  members_told _ _ e = cc

mutual
  value_itself : (a : Data) → value_same a a ≡ true
  value_itself null = refl
  value_itself (boolean a) = test_of_by (same_bool a a) refl
  value_itself (number a) = num_itself a
  value_itself (string a) = (label_eq_decides a a).1 refl
  value_itself (array a) = items_itself a
  value_itself (object a) = members_itself a

  items_itself : (a : Items) → items_same a a ≡ true
  items_itself no_items = refl
  items_itself (item a rest) = both_true (value_same a a) (items_same rest rest) (value_itself a) (items_itself rest)

  members_itself : (a : Members) → members_same a a ≡ true
  members_itself no_members = refl
  members_itself (member k a rest) =
      both_true (label_eq k k) (value_same a a && members_same rest rest) ((label_eq_decides k k).1 refl)
      (both_true (value_same a a) (members_same rest rest) (value_itself a) (members_itself rest))

-- whether two values are one is decided
pub same_value : (a b : Data) → Decided (a ≡ b)
same_value a b = by_test (value_same a b) (value_told a b) (λ e. subst (λ (c : Data). value_same a c ≡ true) e (value_itself a))
