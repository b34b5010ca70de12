-- Which outcomes a set has: for the contracts of inner calls alone.
use Rattle.std.specs.Prelude.{Bool}
use Rattle.std.specs.BTreeSet as tree
use Rattle.std.specs.Cmp.Lexicographic.{slice_cmp}
use Rattle.dns_data.specs.contracts.rdata.RdataOrd.TheImpl as data_impl
use Rattle.net_model.specs.declared.walk.Leaf.{Leaf}
use Rattle.net_model.specs.declared.walk.Leaf.TheVariants as leaves
use Rattle.same_answers.specs.declared.outcomes.OutcomeSet.{OutcomeSet}

-- the set has the outcome of the end
abbrev pub has_outcome : OutcomeSet → Leaf → Bool
has_outcome set (leaves.Answer rdata) = tree.contains_by (λ other. slice_cmp (data_impl.ghosts).cmp rdata other.now) set.answers
has_outcome set leaves.NoData = set.no_data
has_outcome set leaves.NxDomain = set.nx_domain
has_outcome set leaf = set.failed
