use Rattle.std.proofs.Common.{map, sym, ap, ◌∙◌, subst}
use Rattle.std.specs.Prelude.{Contains}
use Rattle.std.proofs.lemmas.List.Elements.{Contains-get_or}
use Rattle.dns_data.specs.Name.{Labels}
use Rattle.dns_data.proofs.Membership.{map_has}
use Rattle.dns_data.proofs.Names.{name_eq_decides}
use Rattle.straight_walks.specs.Searching.{state_at, queued_state}
use Rattle.straight_walks.proofs.queue.is_among.Goals as goal

pub returns-then-eq : goal.returns-then-eq
returns-then-eq c = λ yes config query.
    let queue = c.args.states.now in
    let one = c.one-item.result in
    subst (Contains (map (queued_state config query) queue))
    (ap (λ (name : Labels). state_at config query name one.cut) ((name_eq_decides one.server.now c.args.server.now).0 (sym c.eq.ensures ∙ c.if-eq.true))
    ∙ ap (state_at config query c.args.server.now) c.if-one-cut.true)
    (map_has (queued_state config query) queue one (subst (Contains queue) (sym c.one-item.is) (Contains-get_or queue c.loop-one.one-index one c.loop-one-test.true)))
