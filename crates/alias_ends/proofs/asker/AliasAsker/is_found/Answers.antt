use Rattle.std.proofs.Common.{None, ap, ◌∙◌}
use Rattle.net_model.specs.Step.{Setting, following}
use Rattle.alias_ends.specs.Aliases.{is_found}
use Rattle.alias_ends.specs.Known.{NamesAsked, ends_in, some_at, walks_in}
use Rattle.alias_ends.proofs.AliasWords.{found_there}
use Rattle.alias_ends.proofs.asker.AliasAsker.is_found.Goals as goal

pub returns-clause-found : goal.returns-clause-found
returns-clause-found c =
    let own = following c.self.inside.hosts.now c.self.inside.rewrites c.self.inside.followed.now in
    let server = c.args.server.now in
    let name = c.args.name.now in
    c.some_at.ensures
    ∙ ap (some_at server name)
    (c.in_ok-ends.ensures.ends ∙ ap (λ (asked : NamesAsked). ends_in asked.setting asked.rtype None name) c.self.invariant.0)
    ∙ found_there own server name
    ∙ ap (λ (setting : Setting). is_found (walks_in setting) server name) c.self.view_is
