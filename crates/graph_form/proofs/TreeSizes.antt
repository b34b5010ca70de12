-- The part of a class tree at or below a name has one size. That at or below the root is the size of the whole tree.
use Rattle.std.proofs.Common.{◌≡◌, ℕ, ◌+◌, List, length, sym, ap, ◌∙◌, subst}
use Rattle.dns_data.specs.Name.{Labels, name_cmp}
use Rattle.dns_data.proofs.NameOrder.{names_total}
use Rattle.dns_data.proofs.OrderedLists.{same_rising}
use Rattle.net_model.specs.Reading.{Ground}
use Rattle.net_model.specs.Tree.{IsTreePart, AreBelowClasses}
use Rattle.graph_form.specs.Report.{IsTreeSize}

module _ (ground : Ground) where
  -- the part of the class tree at or below a name is one list
  one_part : (above : Labels) (a b : List Labels) → IsTreePart ground above a → IsTreePart ground above b → a ≡ b
  one_part above a b p q =
      same_rising name_cmp names_total a b p.ordered q.ordered
      (λ name has. (q.all name).1 ((p.all name).0 has)) (λ name has. (p.all name).1 ((q.all name).0 has))

  -- and so are the names below which there is a class
  one_below : (tree a b : List Labels) → AreBelowClasses ground tree a → AreBelowClasses ground tree b → a ≡ b
  one_below tree a b p q =
      same_rising name_cmp names_total a b p.ordered q.ordered
      (λ above has. (q.all above).1 ((p.all above).0 has)) (λ above has. (p.all above).1 ((q.all above).0 has))

  -- two sizes of the same part of the class tree, in names and in classes, are equal
  pub one_size : (above : Labels) (names classes names' classes' : ℕ) → IsTreeSize ground above names classes → IsTreeSize ground above names' classes'
      → (names ≡ names') × (classes ≡ classes')
  one_size above names classes names' classes' p q =
      let part : p.part ≡ q.part = one_part above p.part q.part p.is_part q.is_part in
      let below : p.below ≡ q.below =
      one_below q.part p.below q.below (subst (λ (names : List Labels). AreBelowClasses ground names p.below) part p.are_below) q.are_below in (
        p.counts_names ∙ ap (λ (names : List Labels). length names) part ∙ sym q.counts_names,
        p.counts_classes
            ∙ ap (λ (names : List Labels). length names + length p.below) part
            ∙ ap (λ (names : List Labels). length q.part + length names) below
            ∙ sym q.counts_classes,
      )
