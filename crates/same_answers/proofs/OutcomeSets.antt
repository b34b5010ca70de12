-- Sets of outcomes, to which ends are put one after the other.
use Rattle.std.proofs.Common.{◌≡◌, Bool, true, false, ◌||◌, List, Contains, refl, sym, ◌∙◌, Bor, true≢false}
use Rattle.std.proofs.Math.Bool.{or-false}
use Rattle.std.specs.BTreeSet as tree
use Rattle.std.specs.Cmp.Lexicographic.{slice_cmp, lists_total, lists_ties}
use Rattle.std.specs.Ordering.{eq_by_cmp}
use Rattle.std.specs.List.{list_all}
use lib.Pointwise.{pointwise}
use Rattle.dns_data.specs.Rdata.{data_eq}
use Rattle.dns_data.specs.contracts.rdata.RdataOrd.TheImpl as data_impl
use Rattle.dns_data.specs.contracts.rdata.RdataOrd.TheImpl.Laws.{total-law, matches_eq-law}
use Rattle.dns_data.specs.declared.rdata.Rdata.{Rdata}
use Rattle.dns_data.proofs.Searches.{each_of_all}
use Rattle.dns_data.proofs.SeenItems.{has-added}
use Rattle.graph_form.proofs.EqualAnswers.{same_lists}
use Rattle.net_model.specs.declared.walk.Leaf.{Leaf}
use Rattle.net_model.specs.declared.walk.Leaf.TheVariants as leaves
use Rattle.same_answers.specs.Ends.{outcome_eq}
use Rattle.same_answers.specs.Outcomes.{has_outcome}
use Rattle.same_answers.specs.declared.outcomes.OutcomeSet.{OutcomeSet}

-- if one item fails a test, not all items pass it
pub not_all : {X : Type 0} (test : X → Bool) (xs : List X) (x : X) → Contains xs x → test x ≡ false → list_all test xs ≡ false
not_all test xs x has fails = by (list_all test xs) refl where
  by : (b : Bool) → list_all test xs ≡ b → b ≡ false
  by true e = absurd (true≢false (sym (each_of_all test xs e x has) ∙ fails))
  by false e = refl

-- lists of data are equal exactly where their order doesn't tell them apart
data_ties : (x y : List Rdata) → pointwise data_eq x y ≡ eq_by_cmp (slice_cmp (data_impl.ghosts).cmp) x y
data_ties x y = sym (same_lists x y) ∙ lists_ties (data_impl.ghosts).cmp matches_eq-law x y

-- a set to which an answer was put
module _ (old : OutcomeSet) (after : tree.BTreeSet (Bor (List Rdata))) (key : Bor (List Rdata))
    (updates : tree.Updates (λ x y. slice_cmp (data_impl.ghosts).cmp x.now y.now) old.answers after key true) where
  -- the set has the outcomes that it had, and the answer
  pub answer_put : (query : Leaf) → has_outcome (record old { answers = after }) query ≡ (has_outcome old query || outcome_eq query (leaves.Answer key.now))
  answer_put (leaves.Answer rdata) =
      has-added (slice_cmp (data_impl.ghosts).cmp) (pointwise data_eq) (lists_total total-law) data_ties old.answers after key updates rdata
  answer_put leaves.NoData = sym (or-false old.no_data)
  answer_put leaves.NxDomain = sym (or-false old.nx_domain)
  answer_put leaf = sym (or-false old.failed)
