use Rattle.std.proofs.Common.{List, Option, Some, ap, ◌∙◌}
use Rattle.std.proofs.lemmas.Result.{IfOk-weaker}
use Rattle.dns_data.specs.declared.rr_type.RrType.TheVariants as rr_types
use Rattle.net_model.specs.Step.{following}
use Rattle.plain_resolver.specs.declared.walk_end.ZoneEnd.{ZoneEnd}
use Rattle.alias_ends.specs.Known.{ends_in, word_by_ends}
use Rattle.alias_ends.proofs.AliasWords.{same_word}
use Rattle.alias_ends.proofs.asker.word_at_server.Goals as goal

pub returns : goal.returns
returns c = λ tops_are.
    let config = c.args.hosts.now in
    let setting = following config c.args.rewrites c.args.followed.now in
    let at = c.args.at.now in
    IfOk-weaker c.word_by_ends.result _ _
    (λ word is.
    is ∙ ap (λ (here : Option (List ZoneEnd)). word_by_ends config here c.args.tops.now) c.in_ok-here.ensures
    ∙ ap (word_by_ends config (ends_in setting rr_types.A (Some at.server) at.name)) tops_are
    ∙ same_word setting at.server at.name)
    c.word_by_ends.ensures
