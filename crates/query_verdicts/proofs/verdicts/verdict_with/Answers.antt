use Rattle.std.proofs.Common.{ℕ, Option, sym, subst}
use Rattle.std.specs.Prelude.{IfSome}
use Rattle.net_model.specs.declared.config.Config.{Config}
use Rattle.query_verdicts.specs.AlikeBelow.{AreAlikeBelow}
use Rattle.query_verdicts.specs.Verdict.{IsClassVerdict}
use Rattle.query_verdicts.specs.declared.verdict.ClassVerdict.{ClassVerdict}
use Rattle.query_verdicts.proofs.verdicts.verdict_with.Goals as goal

pub returns-in-Some : goal.returns-in-Some
returns-in-Some c =
    let queries = c.args.queries.now in
    let told =
    subst (λ (found : Option ClassVerdict). IfSome found (λ verdict. (config : Config) (rewrites states : ℕ) → AreAlikeBelow config rewrites states c.items.result.now
    → IsClassVerdict config rewrites states c.args.query.now verdict)) c.in-Some.is c.in_ok-verdict.ensures in
    told queries.trees queries.rewrites queries.states
    (subst (AreAlikeBelow queries.trees queries.rewrites queries.states) (sym c.items.ensures) c.requires.learnt.alike)
