use Rattle.std.proofs.Common.{◌≡◌, None, ap, sym, ◌∙◌}
use Rattle.dns_data.specs.declared.rr_type.RrType.TheVariants as rr_types
use Rattle.net_model.specs.Step.{Setting, following}
use Rattle.plain_resolver.specs.declared.walk_end.ZoneEnd.{ZoneEnd}
use Rattle.alias_ends.specs.Aliases.{target_word}
use Rattle.alias_ends.specs.Known.{NamesAsked, ends_in, some_at, word_there, walks_in}
use Rattle.alias_ends.proofs.EndsAtOnce.{none_there}
use Rattle.alias_ends.proofs.asker.AliasAsker.word.Goals as goal

pub returns-then-some_at-clause-word : goal.returns-then-some_at-clause-word
returns-then-some_at-clause-word c =
    let own = following c.self.inside.hosts.now c.self.inside.rewrites c.self.inside.followed.now in
    let server = c.args.server.now in
    let target = c.args.target.now in
    let tops_are : c.in_ok-tops.tops ≡ ends_in own rr_types.A None target =
    c.in_ok-tops.ensures.ends ∙ ap (λ (asked : NamesAsked). ends_in asked.setting asked.rtype None target) c.self.invariant.1 in
    sym (none_there own server target (sym (ap (some_at server target) tops_are) ∙ sym c.if-some_at.ensures))
    ∙ ap (λ (setting : Setting). target_word (walks_in setting) server target) c.self.view_is

pub returns-in-Some-clause-word : goal.returns-in-Some-clause-word
returns-in-Some-clause-word c =
    let own = following c.self.inside.hosts.now c.self.inside.rewrites c.self.inside.followed.now in
    c.self.invariant.2 c.in_ok-at.at c.in-Some.word (sym (c.in-Some.ensures ∙ c.get.ensures.value))
    ∙ ap (word_there own) c.in_ok-at.ensures
    ∙ ap (λ (setting : Setting). target_word (walks_in setting) c.args.server.now c.args.target.now) c.self.view_is

pub invariant_of-self-in_err-keep-in-None : goal.invariant_of-self-in_err-keep-in-None
invariant_of-self-in_err-keep-in-None c =
    let own = following c.self.inside.hosts.now c.self.inside.rewrites c.self.inside.followed.now in
    let tops_are : c.in_ok-tops.tops ≡ ends_in own rr_types.A None c.in_ok-at.at.name =
    c.in_ok-tops.ensures.ends ∙ ap (λ (asked : NamesAsked). ends_in asked.setting asked.rtype None c.args.target.now) c.self.invariant.1
    ∙ ap (ends_in own rr_types.A None) (sym (ap (λ (at : ZoneEnd). at.name) c.in_ok-at.ensures)) in
    (c.self.invariant.0, c.in_ok-tops.ensures.kept ∙ c.self.invariant.1, c.keep.ensures own c.self.invariant.2 (c.in_ok-word-in-None.ensures tops_are))

pub invariant_of-self-in-None : goal.invariant_of-self-in-None
invariant_of-self-in-None c =
    let own = following c.self.inside.hosts.now c.self.inside.rewrites c.self.inside.followed.now in
    let tops_are : c.in_ok-tops.tops ≡ ends_in own rr_types.A None c.in_ok-at.at.name =
    c.in_ok-tops.ensures.ends ∙ ap (λ (asked : NamesAsked). ends_in asked.setting asked.rtype None c.args.target.now) c.self.invariant.1
    ∙ ap (ends_in own rr_types.A None) (sym (ap (λ (at : ZoneEnd). at.name) c.in_ok-at.ensures)) in
    (c.self.invariant.0, c.in_ok-tops.ensures.kept ∙ c.self.invariant.1, c.keep.ensures own c.self.invariant.2 (c.in_ok-word-in-None.ensures tops_are))
