-- Works for tests: their items are the numbers below a size, and item i has the children i * fan + 1 to i * fan + fan, as
-- far as they are below the size.
use Rattle.std.proofs.Common.{◌≡◌, ℕ, ◌+◌, ◌*◌, ◌/◌, ◌<◌, List, Some, slice_get, sym, ◌∙◌, ap, arith}
use Rattle.std.specs.Prelude.{◌-◌, min}
use Rattle.std.specs.List.{range_with_len}
use Rattle.std.proofs.Math.Nat.{min-le_left}
use Rattle.std.proofs.lemmas.List.FromFn.{length-range_with_len, get_or-range_with_len}
use Rattle.std.proofs.lemmas.Nat.{div-mul-add}
use Rattle.std.proofs.lemmas.Option.{slice_get_within, get_or_from_slice_get}
use Rattle.verdict_book.specs.Items.{ParentsApart}

-- how many children an item has
abbrev pub child_count : ℕ → ℕ → ℕ → ℕ
child_count fan size i = min fan (size - (i * fan + 1))

-- the children of an item
abbrev pub fan_children : ℕ → ℕ → ℕ → List ℕ
fan_children fan size i = range_with_len (i * fan + 1) (child_count fan size i)

-- a child says its parent and its place there
child_is : (fan size i place item : ℕ) → slice_get (fan_children fan size i) place ≡ Some item
    → (item ≡ (i * fan + place) + 1) × (place < fan)
child_is fan size i place item at =
    let n = child_count fan size i in
    let within = slice_get_within (fan_children fan size i) place item at in
    let low : place < n = omega (arith, within, length-range_with_len (i * fan + 1) n) in
    let is = sym (get_or_from_slice_get (fan_children fan size i) place item 0 at) ∙ get_or-range_with_len (i * fan + 1) n place 0 low in
    (shift (i * fan) place item is, omega (arith, low, min-le_left fan (size - (i * fan + 1))))
  where
    shift : (a place item : ℕ) → item ≡ (a + 1) + place → item ≡ (a + place) + 1
    shift a place item is = omega (arith, is)

-- no item is a child twice, and 0 is a child of none
pub tree_apart : (fan size : ℕ) → ParentsApart 0 (fan_children fan size)
tree_apart fan size =
    record {
      one = λ parent other place place' item a b at at'.
          let p = child_is fan size parent place item at in
          let q = child_is fan size other place' item at' in
          let same = less (parent * fan + place) (other * fan + place') (sym p.0 ∙ q.0) in
          let parents : parent ≡ other = sym (div-mul-add parent fan place p.1) ∙ ap (λ n. n / fan) same ∙ div-mul-add other fan place' q.1 in
          (parents, behind (parent * fan) (other * fan) place place' (ap (λ n. n * fan) parents) same);
      none_of_first = λ parent place a at. never (parent * fan + place) (child_is fan size parent place 0 at).0;
    }
  where
    less : (a b : ℕ) → a + 1 ≡ b + 1 → a ≡ b
    less a b e = omega (arith, e)

    behind : (a b p q : ℕ) → a ≡ b → a + p ≡ b + q → p ≡ q
    behind a b p q e f = omega (arith, e, f)

    never : (n : ℕ) → 0 ≡ n + 1 → ⊥
    never n e = omega (arith, e)
