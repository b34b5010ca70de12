use Rattle.std.proofs.Common.{IfOk, OnOk, IsErrOf, length, subst}
use Rattle.dns_data.specs.Name.{Labels}
use Rattle.net_model.specs.declared.config.Config.{Config}
use Rattle.net_model.specs.Learnt.{AfterRounds}
use Rattle.plain_resolver.specs.Passed.{NoneInRounds, IsFirstWithTooMany}
use Rattle.plain_resolver.specs.declared.fault.LearntFault.TheVariants.{WalksPassed}
use Rattle.plain_resolver.proofs.rounds.learnt.Goals as goal

pub returns-clause-rounds : goal.returns-clause-rounds
returns-clause-rounds c =
    subst (λ (x : Config). IfOk c.learnt_at.result (λ learnt. AfterRounds x c.args.rewrites (length x.servers) c.args.from.now learnt)) c.in_ok-hosts.ensures c.learnt_at.ensures.rounds

pub returns-clause-few : goal.returns-clause-few
returns-clause-few c =
    subst (λ (x : Config). OnOk c.learnt_at.result (NoneInRounds x c.args.rewrites c.args.most c.args.from.now (length x.servers))) c.in_ok-hosts.ensures c.learnt_at.ensures.few

pub returns-clause-passed : goal.returns-clause-passed
returns-clause-passed c =
    subst (λ (x : Config). (name : Labels) → IsErrOf c.learnt_at.result (WalksPassed name) → IsFirstWithTooMany x c.args.rewrites c.args.most c.args.from.now name) c.in_ok-hosts.ensures c.learnt_at.ensures.passed
