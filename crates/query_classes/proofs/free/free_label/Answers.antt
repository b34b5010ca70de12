use Rattle.std.proofs.Common.{◌≡◌, ℕ, List, [], ◌∷◌, ◌++◌, Less, inl, inr, sym, subst}
use Rattle.dns_data.specs.Label.{IsLabel}
use Rattle.net_model.specs.Class.{trial_cmp}
use Rattle.net_model.specs.Reading.{IsNamed}
use Rattle.label_graph.proofs.LiveNames.{named_next}
use Rattle.query_classes.specs.Trials.{IsLabelBehind}
use Rattle.query_classes.proofs.FreeLabels.{fewer_left}
use Rattle.query_classes.proofs.TrialSteps.{none_before_a, a_is_label}
use Rattle.query_classes.proofs.free.free_label.Goals as goal

pub loop-alloc-init : goal.loop-alloc-init
loop-alloc-init c =
    record {
      is = subst IsLabel (sym c.in_ok-label.ensures) a_is_label;
      before = λ name of other is less. absurd (none_before_a other is (subst (λ (l : List ℕ). trial_cmp other l ≡ Less) c.in_ok-label.ensures less));
    }

pub loop-alloc-smaller : goal.loop-alloc-smaller
loop-alloc-smaller c =
    let behind : IsLabelBehind c.loop-alloc.label c.in-Some.next = rw c.in-Some.is at c.in_ok-next.ensures in
    let named : IsNamed c.args.graph.now (c.requires.0 ++ c.loop-alloc.label ∷ []) = (c.has_next.ensures c.requires.0 c.requires.1).0 c.loop-alloc-test.true in
    let (above, live, has) = named_next c.args.graph.now c.graph_is_closed.ensures c.requires.0 c.loop-alloc.label named in
    fewer_left c.args.graph.now.names above c.loop-alloc.label c.in-Some.next has behind

pub loop-alloc-preserved : goal.loop-alloc-preserved
loop-alloc-preserved c =
    let behind : IsLabelBehind c.loop-alloc.label c.in-Some.next = rw c.in-Some.is at c.in_ok-next.ensures in
    record {
      is = behind.is_label;
      before = λ name of other is less. elim (behind.first other is less) [
        | inl same ↦ subst (λ (l : List ℕ). IsNamed c.args.graph.now (name ++ l ∷ [])) (sym same) ((c.has_next.ensures name of).0 c.loop-alloc-test.true)
        | inr earlier ↦ c.loop-alloc.invariant.before name of other is earlier
      ];
    }
