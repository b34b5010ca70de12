use Rattle.std.proofs.Common.{◌≡◌, true, sym, ap, ◌∙◌, subst}
use Rattle.net_model.specs.Nearest.{is_configured, server_names}
use Rattle.net_model.specs.Step.{Setting, following, may_follow}
use Rattle.net_model.proofs.Followed.{names_follow_all}
use Rattle.zone_lookup.specs.LentCut.{cut_of}
use Rattle.zone_lookup.specs.Walker.{names_followed}
use Rattle.zone_lookup.specs.declared.walker.Followed.{Followed}
use Rattle.zone_lookup.proofs.walker.Walker.may_follow.Goals as goal

pub returns-in-Configured : goal.returns-in-Configured
returns-in-Configured c =
    let cut = cut_of c.args.cut in
    let hosts = c.self.inside.hosts.now in
    let same : following hosts c.self.inside.rewrites (server_names hosts) ≡ c.args.self.now =
    ap (λ (followed : Followed). following hosts c.self.inside.rewrites (names_followed hosts followed)) (sym c.in-Configured.is) ∙ c.self.view_is in
    sym (subst (λ (setting : Setting). may_follow setting.config cut setting.followed ≡ true) same
    (names_follow_all hosts c.self.inside.rewrites cut (ap (λ (setting : Setting). is_configured setting.config cut.ns) same ∙ c.requires.configured)))
