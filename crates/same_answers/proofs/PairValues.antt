-- The children and the verdicts of all names of the joint class tree, as values: for whoever picks the name of a
-- comparison.
use Rattle.std.proofs.Common.{◌↔◌, ℕ, List, []}
use Rattle.dns_data.specs.Name.{Labels, IsName}
use Rattle.label_graph.specs.LiveSet.{IsClosed}
use Rattle.net_model.specs.declared.class.Class.TheVariants.{Below}
use Rattle.net_model.specs.Class.{IsRepresentative}
use Rattle.net_model.specs.Tree.{HasMoreThan}
use Rattle.query_classes.specs.Children.{AreChildren, IsInTree}
use Rattle.query_classes.proofs.Decided.{Decided}
use Rattle.query_classes.proofs.LiveSetsExist.{live_set_of}
use Rattle.query_classes.proofs.SameGrounds.{more_in_whole}
use Rattle.query_classes.proofs.TreeItems as items
use Rattle.query_verdicts.specs.declared.verdict.NameVerdict.{NameVerdict}
use Rattle.query_verdicts.proofs.BelowDecided.{below_decided}
use Rattle.query_verdicts.proofs.CoveringGrounds.{is_closed}
use Rattle.query_verdicts.proofs.NameVerdicts as verdicts
use Rattle.verdict_book.specs.Items.{ParentsApart, ReachesMore}
use Rattle.same_answers.specs.Compared.{Compared, joint}
use Rattle.same_answers.specs.Values.{ArePairValues}
use Rattle.same_answers.specs.Verdict.{IsPairEnd, IsPairVerdict}
use Rattle.same_answers.specs.declared.verdict.PairEnd.{PairEnd}
use Rattle.same_answers.specs.declared.verdict.PairEnd.TheVariants.{Equal}
use Rattle.same_answers.proofs.Comparing.{covers_first, is_covering}
use Rattle.same_answers.proofs.PairEnds.{end_exists}

module _ (two : Compared) where
  -- the joint ground has the root, the prefixes of its names and the owners of its redirections
  pub joint_closed : IsClosed (joint two)
  joint_closed = is_closed two.first (joint two) (covers_first two)

  -- the names of the joint class tree one label below a name
  abbrev pub children_of : Labels → List Labels
  children_of = items.children_of (joint two) joint_closed

  -- no name is one label below two names of the joint class tree
  pub apart : ParentsApart [] children_of
  apart = items.parents_apart (joint two) [] children_of (items.children_are (joint two) joint_closed)

  decided : (above : Labels) → IsName above → Decided ((query : Labels) × IsRepresentative (joint two) (Below above) query)
  decided = below_decided (joint two) joint_closed (live_set_of (joint two) joint_closed)

  -- the verdict of a name; of what isn't a name it says nothing
  pub verdict_of : Labels → NameVerdict PairEnd
  verdict_of = verdicts.verdict_of (joint two) (IsPairEnd two) Equal (λ query is. end_exists two query) decided

  verdict_is : (name : Labels) → IsName name → IsPairVerdict two name (verdict_of name)
  unfolding verdict_of
  verdict_is = verdicts.verdict_is (joint two) (IsPairEnd two) Equal (λ query is. end_exists two query) decided

  -- the children and the verdicts are those of the joint class tree
  pub values : ArePairValues two children_of verdict_of
  values = record { children = items.children_are (joint two) joint_closed; verdicts = verdict_is }

  -- more items are reached than so many exactly where the tree has more names
  pub reaches_more : (children : Labels → List Labels) → ((name : Labels) → AreChildren (joint two) name (children name)) → (limit : ℕ)
      → ReachesMore [] children limit ↔ HasMoreThan (IsInTree (joint two)) limit
  reaches_more children are limit =
      let part = items.reaches_more (joint two) [] children are joint_closed (is_covering two).in_tree limit in
      let whole = more_in_whole (joint two) limit in
      (λ more. whole.0 (part.0 more), λ more. part.1 (whole.1 more))
