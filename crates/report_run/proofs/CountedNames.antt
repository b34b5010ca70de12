-- How many names the class tree of a graph has, by that of a ground with the same names and redirections.
use Rattle.std.proofs.Common.{ℕ, [], inl, inr}
use Rattle.dns_data.specs.Name.{Labels}
use Rattle.net_model.specs.Reading.{Ground}
use Rattle.net_model.specs.Tree.{IsInPart, HasMoreThan}
use Rattle.label_graph.specs.Pairs.{AreSame}
use Rattle.query_classes.specs.Children.{IsInTree}
use Rattle.query_classes.proofs.SameGrounds.{same_back, more_in_whole, more_same}
use Rattle.run_endings.specs.declared.ending.Ending.{Ending}
use Rattle.report_run.specs.Counted.{EndsPast}

module _ (graph ground : Ground) (same : AreSame graph ground) where
  -- if the graph's tree has no more names than the limit, the ground's has no more
  pub has_no_more : (limit : ℕ) → (HasMoreThan (IsInPart graph []) limit → ⊥) → HasMoreThan (IsInTree ground) limit → ⊥
  has_no_more limit few more = few (more_same ground graph (same_back graph ground same) [] limit ((more_in_whole ground limit).1 more))

  -- a run that ends since a part of the graph's tree has more names than the limit ends so for the same part of the
  -- ground's
  pub part_ends_past : (above : Labels) (limit : ℕ) (ending : Ending) → EndsPast (IsInPart graph above) limit ending → EndsPast (IsInPart ground above) limit ending
  part_ends_past above limit ending (inl (more, is)) = inl (more_same graph ground same above limit more, is)
  part_ends_past above limit ending (inr ran_out) = inr ran_out

  -- a run that ends since the graph's tree has more names than the limit ends so for the ground's
  pub ends_past : (limit : ℕ) (ending : Ending) → EndsPast (IsInPart graph []) limit ending → EndsPast (IsInTree ground) limit ending
  ends_past limit ending (inl (more, is)) = inl ((more_in_whole ground limit).0 (more_same graph ground same [] limit more), is)
  ends_past limit ending (inr ran_out) = inr ran_out
