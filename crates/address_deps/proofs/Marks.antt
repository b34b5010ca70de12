-- Marks of nodes, one by one.
use Rattle.std.proofs.Common.{◌≡◌, ℕ, zero, suc, Bool, true, false, List, [], ◌∷◌, replicate, refl, sym, ap, ◌∙◌, subst, inl, inr}
use Rattle.std.proofs.Math.ListN.{set}
use Rattle.std.proofs.lemmas.Bool.{cases_eq}
use Rattle.dns_data.specs.Name.{Labels}
use Rattle.address_deps.specs.Giving.{is_marked, AreGiving}
use Rattle.address_deps.specs.Addresses.{gives_from}
use Rattle.address_deps.specs.declared.addresses.Turn.{Turn}

-- another one stays where one is set
set_other : (marks : List Bool) (at other : ℕ) → (other ≡ at → ⊥) → is_marked (set marks at true) other ≡ is_marked marks other
set_other [] at other apart = refl
set_other (mark ∷ marks) zero zero apart = absurd (apart refl)
set_other (mark ∷ marks) zero (suc other) apart = refl
set_other (mark ∷ marks) (suc at) zero apart = refl
set_other (mark ∷ marks) (suc at) (suc other) apart = set_other marks at other (λ e. apart (ap suc e))

module _ (followed : List Labels) (nodes : List (List Turn)) (marks : List Bool) where
  -- marks stay right with one more set at a node from which a path gives an address
  pub giving_more : (at : ℕ) → AreGiving followed nodes marks → (numbers : List ℕ) × (gives_from followed nodes numbers at ≡ true)
      → AreGiving followed nodes (set marks at true)
  giving_more at giving path =
      λ other marked.
      elim (cases_eq other at) [
        | inl same ↦ subst (λ (n : ℕ). (numbers : List ℕ) × (gives_from followed nodes numbers n ≡ true)) (sym same) path
        | inr apart ↦ giving other (sym (set_other marks at other apart) ∙ marked)
      ]

  -- among clear marks each marked node gives an address, for none is marked
  pub none_giving : ((at : ℕ) → is_marked marks at ≡ false) → AreGiving followed nodes marks
  none_giving clear = λ at marked. let no : false ≡ true = sym (clear at) ∙ marked in cc

-- among marks that are all clear none is set, wherever it is looked for
pub all_clear : (count at : ℕ) → is_marked (replicate count false) at ≡ false
all_clear zero at = refl
all_clear (suc count) zero = refl
all_clear (suc count) (suc at) = all_clear count at
