use Rattle.std.proofs.Common.{IfOk, OnOk, IsErrOf, subst}
use Rattle.net_model.specs.declared.config.Config.{Config}
use Rattle.net_model.specs.Step.{following}
use Rattle.net_model.specs.Walk.{AreWalks}
use Rattle.plain_resolver.specs.Passed.{HasMoreWalks}
use Rattle.plain_resolver.specs.declared.fault.ResolveFault.TheVariants.{WalksPassed}
use Rattle.plain_resolver.proofs.walks.resolve.Goals as goal

pub returns-clause-walks : goal.returns-clause-walks
returns-clause-walks c =
    subst (λ (x : Config). IfOk c.resolve_at.result (λ walks. AreWalks (following x c.args.rewrites c.args.followed.now) c.args.name.now c.args.t walks)) c.in_ok-hosts.ensures c.resolve_at.ensures.walks

pub returns-clause-few : goal.returns-clause-few
returns-clause-few c =
    subst (λ (x : Config). OnOk c.resolve_at.result (HasMoreWalks (following x c.args.rewrites c.args.followed.now) c.args.name.now c.args.t c.args.most → ⊥)) c.in_ok-hosts.ensures c.resolve_at.ensures.few

pub returns-clause-passed : goal.returns-clause-passed
returns-clause-passed c =
    subst (λ (x : Config). IsErrOf c.resolve_at.result WalksPassed → HasMoreWalks (following x c.args.rewrites c.args.followed.now) c.args.name.now c.args.t c.args.most) c.in_ok-hosts.ensures c.resolve_at.ensures.passed
