-- A small work, by which the crate is tried: its items are 0 to 6, and each item below 3 has two children.
use Rattle.std.proofs.Common.{◌≡◌, ℕ, zero, suc, ◌+◌, ◌*◌, ◌<◌, Bool, true, false, cond, List, [], ◌∷◌, Some, slice_get, arith}
use Rattle.std.specs.Prelude.{nat_lt}
use Rattle.verdict_book.specs.Items.{ParentsApart}

-- the children of an item
abbrev pub children : ℕ → List ℕ
children i = cond (nat_lt i 3) ((2 * i + 1) ∷ (2 * i + 2) ∷ []) []

-- a child says its parent and its place there
child_is : (below : Bool) (i place item : ℕ)
    → slice_get (cond below ((2 * i + 1) ∷ (2 * i + 2) ∷ []) []) place ≡ Some item
    → (item ≡ 2 * i + 1 + place) × (place < 2)
child_is true i zero item h = let is : 2 * i + 1 ≡ item = cc in (omega (arith, is), omega arith)
child_is true i (suc zero) item h = let is : 2 * i + 2 ≡ item = cc in (omega (arith, is), omega arith)
child_is true i (suc (suc place)) item h = absurd cc
child_is false i place item h = absurd cc

-- no item is a child twice, and 0 is a child of none
pub sevens_apart : ParentsApart 0 children
sevens_apart =
    record {
      one = λ parent other place place' item a b at at'.
          let p = child_is (nat_lt parent 3) parent place item at in
          let q = child_is (nat_lt other 3) other place' item at' in
          (omega (arith, p.0, p.1, q.0, q.1), omega (arith, p.0, p.1, q.0, q.1));
      none_of_first = λ parent place a at. let p = child_is (nat_lt parent 3) parent place 0 at in omega (arith, p.0);
    }
