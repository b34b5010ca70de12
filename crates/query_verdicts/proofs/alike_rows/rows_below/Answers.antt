use Rattle.std.proofs.Common.{◌∙◌, Option, sym, subst}
use Rattle.std.specs.Prelude.{IfSome}
use Rattle.query_verdicts.specs.AlikeBelow.{AreAlikeBelow, IsAlikeBelow}
use Rattle.query_verdicts.specs.declared.alike.AlikeBelow.{AlikeBelow}
use Rattle.query_verdicts.proofs.OpenNodes.{one_more_alike}
use Rattle.query_verdicts.proofs.alike_rows.rows_below.Goals.{in-Some+in_ok-push, in_default}
use Rattle.query_verdicts.proofs.alike_rows.rows_below.Goals as goal

pub loop-above-preserved : goal.loop-above-preserved
loop-above-preserved c =
    let queries = c.args.queries.now in
    elim c.match-branch-2.branch [
      | in-Some+in_ok-push w ↦
          subst (AreAlikeBelow queries.trees queries.rewrites queries.states) (sym (w.rows-is ∙ w.in_ok-push.ensures.ok))
          (one_more_alike queries.trees queries.rewrites queries.states c.loop-above.rows w.in-Some.row c.loop-above.invariant
          (subst (λ (found : Option AlikeBelow). IfSome found (IsAlikeBelow queries.trees queries.rewrites queries.states)) w.in-Some.is c.in_ok-row.ensures))
      | in_default w ↦ subst (AreAlikeBelow queries.trees queries.rewrites queries.states) (sym w.rows-is) c.loop-above.invariant
    ]
