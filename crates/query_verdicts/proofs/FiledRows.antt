-- What a whole walk of a class tree files: the names of the tree in order, each with its verdict.
use Rattle.std.proofs.Common.{◌≡◌, ◌∙◌, List, Contains, Some, sym, ap, subst}
use Rattle.std.specs.declared.cmp.Ordering.TheVariants.{Less}
use Rattle.std.proofs.lemmas.List.Elements.{All-contains}
use Rattle.std.proofs.lemmas.Option.{slice_get-get_or}
use Rattle.dns_data.specs.Name.{Labels, name_cmp}
use Rattle.dns_data.proofs.Membership.{all_from_contains, map_has, pairs_of_images}
use Rattle.dns_data.proofs.NameOrder.{names_total}
use Rattle.dns_data.proofs.Names.{same_names}
use Rattle.label_graph.specs.LiveSet.{IsClosed}
use Rattle.net_model.specs.Reading.{Ground}
use Rattle.net_model.specs.Tree.{IsInPart}
use Rattle.query_classes.specs.Children.{IsInTree}
use Rattle.query_classes.proofs.TreeItems.{at_number, reached_in_part, part_reached}
use Rattle.verdict_book.specs.Lists.{IsWholeTree, Judges}
use Rattle.query_verdicts.specs.TreeVerdicts.{AreInTreeOrder, AreTreeRows, AreTreeValues, IsVerdictAt, TreeRow, row_names}
use Rattle.query_verdicts.specs.declared.verdict.NameVerdict.{NameVerdict}
use Rattle.query_verdicts.proofs.Rising.{rises}

module _ {W C : Type 0} {ground : Ground} {above : Labels} {IsVerdictOf : Labels → C → Type 0} {children_of : Labels → List Labels} {verdict_of : Labels → NameVerdict C}
    (closed : IsClosed ground) (in_tree : IsInTree ground above) (values : AreTreeValues ground IsVerdictOf children_of verdict_of)
    (filed : List (TreeRow W C)) (tree : IsWholeTree name_cmp above children_of verdict_of filed) where
  abbrev item : TreeRow W C → Labels
  item row = row.item

  -- no name stands twice, so names that don't fall rise
  strictly : AreInTreeOrder filed
  strictly = rises item name_cmp names_total same_names filed tree.sorted tree.reached.once

  -- what is filed is in the class tree
  item_in_part : (name : Labels) → Contains (row_names filed) name → IsInPart ground above name
  item_in_part name (place, within, is) =
      reached_in_part ground above children_of values.children in_tree name
      ((tree.reached.each name).1 (place, slice_get-get_or (row_names filed) place name within ∙ ap (λ (n : Labels). Some n) is))

  -- and the class tree is filed
  tree_filed : (name : Labels) → IsInPart ground above name → Contains (row_names filed) name
  tree_filed name is =
      let (place, at) = (tree.reached.each name).0 (part_reached ground above children_of values.children closed name is) in
      let (within, there) = at_number (row_names filed) place name at in (place, within, there name)

  verdict_right : (row : TreeRow W C) → Contains filed row → IsVerdictAt ground IsVerdictOf row.item row.verdict
  verdict_right row has =
      let judged : row.verdict ≡ verdict_of row.item = All-contains (Judges verdict_of) filed row tree.verdicts has in
      subst (IsVerdictAt ground IsVerdictOf row.item) (sym judged) (values.verdicts row.item (item_in_part row.item (map_has item filed row has)).is_name)

  -- what is filed in a whole work are the rows of the class tree
  pub rows_of_whole : AreTreeRows ground above IsVerdictOf filed
  rows_of_whole =
      record {
        ordered = strictly;
        tree = record {
          ordered = pairs_of_images item (λ a b. name_cmp a b ≡ Less) filed strictly;
          all = λ name. (item_in_part name, tree_filed name);
        };
        verdicts = all_from_contains (λ (row : TreeRow W C). IsVerdictAt ground IsVerdictOf row.item row.verdict) filed verdict_right;
      }
