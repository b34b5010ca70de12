-- The items of a judge of names are names of the class tree, and what is found of them are the values that are picked.
use Rattle.std.proofs.Common.{◌≡◌, List}
use Rattle.dns_data.specs.Name.{Labels}
use Rattle.net_model.specs.Reading.{Ground}
use Rattle.query_classes.specs.Children.{AreChildren, IsInTree}
use Rattle.query_classes.proofs.ChildLists.{one_children}
use Rattle.query_classes.proofs.TreeItems.{reached_in_part}
use Rattle.verdict_book.specs.Items.{Reached}
use Rattle.query_verdicts.specs.TreeVerdicts.{AreTreeValues, IsVerdictAt}
use Rattle.query_verdicts.specs.declared.verdict.NameVerdict.{NameVerdict}
use Rattle.query_verdicts.proofs.NameVerdicts.{one_name_verdict}

module _ {C : Type 0} {ground : Ground} {IsVerdictOf : Labels → C → Type 0} {children : Labels → List Labels} {verdict_of : Labels → NameVerdict C}
    (values : AreTreeValues ground IsVerdictOf children verdict_of) (item : Labels) where
  -- an item that is reached is in the tree
  pub item_in_tree : (first : Labels) → IsInTree ground first → Reached first children item → IsInTree ground item
  item_in_tree first in_tree reached =
      let part = reached_in_part ground first children values.children in_tree item reached in (part.named, part.is_name)

  -- the verdict of an item is the picked one
  pub verdict_picked : ((query : Labels) (a b : C) → IsVerdictOf query a → IsVerdictOf query b → a ≡ b) → IsInTree ground item
      → (verdict : NameVerdict C) → IsVerdictAt ground IsVerdictOf item verdict → verdict ≡ verdict_of item
  verdict_picked one_of_each in_tree verdict is =
      one_name_verdict ground IsVerdictOf one_of_each item verdict (verdict_of item) is (values.verdicts item in_tree.1)

  -- the children of an item are the picked ones
  pub children_picked : (names : List Labels) → AreChildren ground item names → names ≡ children item
  children_picked names are = one_children ground item names (children item) are (values.children item)
