-- A set of the items that came before, asked for another.
use Rattle.std.proofs.Common.{◌≡◌, Bool, true, false, cond, ◌||◌, refl, ap, sym, ◌∙◌}
use Rattle.std.specs.BTreeSet as tree
use Rattle.std.specs.Cmp.{IsTotalOrder}
use Rattle.std.specs.Ordering.{eq_by_cmp}
use Rattle.std.specs.declared.cmp.Ordering.{Ordering}
use Rattle.std.proofs.lemmas.Cmp.{eq_by_cmp_equiv}
use denote.Bor.{Bor}

-- whether a set has an item, once another was added to it, is whether it had the item before or the item is the added
-- one
pub or-from_cond : (here before : Bool) → cond here true before ≡ (before || here)
or-from_cond true true = refl
or-from_cond true false = refl
or-from_cond false true = refl
or-from_cond false false = refl

module _ {A : Type 0} (cmp : A → A → Ordering) (eq : A → A → Bool) where
  -- the value is among these
  abbrev pub has : tree.BTreeSet (Bor A) → A → Bool
  has set value = tree.contains_by (λ other. cmp value other.now) set

  -- a set to which a value was added has the value and what it had
  pub has-added : IsTotalOrder cmp → ((x y : A) → eq x y ≡ eq_by_cmp cmp x y) → (old new : tree.BTreeSet (Bor A)) (key : Bor A) → tree.Updates (λ x y. cmp x.now y.now) old new key true → (query : A) → has new query ≡ (has old query || eq query key.now)
  has-added total ties old new key updates query =
      updates.0 (record key { now = query })
      ∙ (ap (λ b. cond b true (has old query)) ((eq_by_cmp_equiv total).symm key.now query ∙ sym (ties query key.now))
      ∙ or-from_cond (eq query key.now) (has old query))
