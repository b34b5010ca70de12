use Rattle.std.proofs.Common.{◌∙◌, ◌∷◌, [], ◌++◌, take, drop, sym, subst, ap, true, append_assoc, ◌+◌}
use Rattle.std.specs.BTreeSet as tree
use Rattle.std.proofs.lemmas.Bool.{not-true, not-false}
use Rattle.dns_data.specs.Distinct.{distinct_behind}
use Rattle.dns_data.specs.Name.{name_eq, name_cmp}
use Rattle.meta_read.proofs.Single.{has-more, once-old, once-new}
use Rattle.meta_read.proofs.names.once.Goals.{then-branch+in_ok-copy-2+in_ok-push, else-branch}
use Rattle.meta_read.proofs.names.once.Goals as goal

pub loop-name-preserved : goal.loop-name-preserved
loop-name-preserved c =
    let i = c.loop-name.name-index in
    let was = c.loop-name.invariant.has c.name-item.result in
    let asked = ap (tree.contains name_cmp c.loop-name.seen) c.in_ok-copy.ensures in
    record {
      has = has-more (λ name. name) c.args.names.now i c.loop-name.seen c.insert.new.self c.name-item.result c.loop-name-test.true c.name-item.is
          (subst (λ key. tree.Updates name_cmp c.loop-name.seen c.insert.new.self key true) c.in_ok-copy.ensures c.in_ok-insert.ensures.updates)
          c.loop-name.invariant.has;
      so_far = elim c.if-branch.branch [
        | then-branch+in_ok-copy-2+in_ok-push w ↦
            c.loop-name.invariant.so_far
            ∙ (ap (λ rest. c.loop-name.single ++ rest) (once-new c.args.names.now i c.name-item.result c.loop-name-test.true c.name-item.is
            (sym was ∙ (sym asked ∙ not-true _ (sym c.in_ok-insert.ensures.added ∙ w.if-branch.true))))
            ∙ (sym (append_assoc c.loop-name.single (c.name-item.result ∷ []) (distinct_behind name_eq (take (i + 1) c.args.names.now) (drop (i + 1) c.args.names.now)))
            ∙ ap (λ single. single ++ distinct_behind name_eq (take (i + 1) c.args.names.now) (drop (i + 1) c.args.names.now))
            (ap (λ name. c.loop-name.single ++ name ∷ []) (sym w.in_ok-copy-2.ensures) ∙ (sym w.in_ok-push.ensures.ok ∙ sym w.single-is))))
        | else-branch w ↦
            c.loop-name.invariant.so_far
            ∙ (ap (λ rest. c.loop-name.single ++ rest) (once-old c.args.names.now i c.name-item.result c.loop-name-test.true c.name-item.is
            (sym was ∙ (sym asked ∙ not-false _ (sym c.in_ok-insert.ensures.added ∙ w.if-branch.false))))
            ∙ ap (λ single. single ++ distinct_behind name_eq (take (i + 1) c.args.names.now) (drop (i + 1) c.args.names.now)) (sym w.single-is))
      ];
    }
