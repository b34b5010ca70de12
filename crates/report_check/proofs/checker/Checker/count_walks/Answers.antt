use Rattle.std.proofs.Common.{List, sym, ap, ◌∙◌, subst}
use Rattle.dns_data.specs.Name.{Labels}
use Rattle.net_model.specs.Step.{Setting, following}
use Rattle.plain_resolver.specs.Passed.{HasMoreWalks, most_walks_followed}
use Rattle.report_check.proofs.checker.Checker.count_walks.Goals as goal

pub returns-then-is_counted-clause-few : goal.returns-then-is_counted-clause-few
returns-then-is_counted-clause-few c =
    let own = c.self.inside in
    let asked = c.args.asked.now in
    subst (λ (s : Setting). HasMoreWalks s asked.query asked.rtype most_walks_followed → ⊥) c.self.view_is
    (c.is_counted.ensures (following own.hosts.now own.rewrites own.sets.least) c.self.invariant.2 c.if-is_counted.true)

pub invariant_of-self : goal.invariant_of-self
invariant_of-self c =
    let own = c.self.inside in
    let asked = c.args.asked.now in (
      c.self.invariant.0,
      c.self.invariant.1,
      c.put_counted.ensures (following own.hosts.now own.rewrites own.sets.least) c.self.invariant.2
          (subst (λ (names : List Labels). HasMoreWalks (following own.hosts.now own.rewrites names) asked.query asked.rtype most_walks_followed → ⊥)
          (c.followed.ensures ∙ sym (ap (λ (s : Setting). s.followed) c.self.view_is)) c.in_ok-count_walks.ensures.few),
    )

pub invariant_of-self-2 : goal.invariant_of-self-2
invariant_of-self-2 c =
    let own = c.self.inside in
    let asked = c.args.asked.now in (
      c.self.invariant.0,
      c.self.invariant.1,
      c.put_counted.ensures (following own.hosts.now own.rewrites own.sets.least) c.self.invariant.2
          (subst (λ (names : List Labels). HasMoreWalks (following own.hosts.now own.rewrites names) asked.query asked.rtype most_walks_followed → ⊥)
          (c.followed.ensures ∙ sym (ap (λ (s : Setting). s.followed) c.self.view_is)) c.in_ok-count_walks.ensures.few),
    )
