use Rattle.std.proofs.Common.{List, length, inl, inr, ap, ◌∙◌, subst, rules}
use Rattle.dns_data.specs.Name.{Labels}
use Rattle.net_model.specs.Nearest.{server_names}
use Rattle.net_model.specs.declared.config.Config.{Config}
use Rattle.plain_resolver.specs.Passed.{IsFirstWithTooMany, NoneInRounds, most_walks_followed}
use Rattle.plain_resolver.proofs.FromNone.{few_from_none, first_from_none}
use Rattle.report_check.proofs.FewWalks.{learning_few}
use Rattle.report_check.proofs.learning.learnt_sets.Goals as goal

pub returns-in_err-least-clause-passed : goal.returns-in_err-least-clause-passed
returns-in_err-least-clause-passed c = λ name is.
    inl (
      name,
      first_from_none c.args.hosts.now c.args.rewrites c.new-none.result c.new-none.ensures most_walks_followed name
          (c.in_err-least.ensures.passed name (search rules)),
    )

pub returns-in_err-greatest-clause-passed : goal.returns-in_err-greatest-clause-passed
returns-in_err-greatest-clause-passed c = λ name is.
    inr (
      name,
      subst (λ (begin : List Labels). IsFirstWithTooMany c.args.hosts.now c.args.rewrites most_walks_followed begin name)
          (c.in_ok-all.ensures ∙ ap (λ (config : Config). server_names config) c.config.ensures)
          (c.in_err-greatest.ensures.passed name (search rules)),
    )

pub returns-clause-few : goal.returns-clause-few
returns-clause-few c =
    let hosts = c.args.hosts.now in
    learning_few hosts c.args.rewrites
    (few_from_none hosts c.args.rewrites c.new-none.result c.new-none.ensures most_walks_followed c.in_ok-least.ensures.few)
    (subst (λ (begin : List Labels). NoneInRounds hosts c.args.rewrites most_walks_followed begin (length hosts.servers))
    (c.in_ok-all.ensures ∙ ap (λ (config : Config). server_names config) c.config.ensures) c.in_ok-greatest.ensures.few)
