use Rattle.std.proofs.Common.{Bool, List, ◌||◌, ◌&&◌, take, refl, sym, ap, ◌∙◌}
use Rattle.std.proofs.Math.Bool.{and-false, or-false}
use Rattle.std.proofs.lemmas.List.{take_all}
use Rattle.std.specs.List.{list_any}
use Rattle.dns_data.specs.Name.{Labels, name_eq}
use Rattle.dns_data.proofs.FirstItems.{any-next}
use Rattle.map_run.specs.ReachedRows.{tells}
use Rattle.map_run.proofs.AnsweredRows.{servers_more, tells_more}
use Rattle.map_run.proofs.answered.put_tellers.Goals as goal

pub loop-server-init : goal.loop-server-init
loop-server-init c = λ server origin.
    let was = tells c.args.tellers.now server origin in
    sym (ap (λ (b : Bool). was || b) (and-false (name_eq c.args.one.now.origin origin)) ∙ or-false was)

pub loop-server-preserved : goal.loop-server-preserved
loop-server-preserved c = λ server origin.
    let at = c.args.one.now.origin in
    let servers = c.items-server-items.result.now in
    let i = c.loop-server.server-index in
    let item = c.server-item.result in
    let was = tells c.args.tellers.now server origin in
    let some = list_any (name_eq server) (take i servers) in
    tells_more c.loop-server.tellers c.insert.new.self c.in_ok-of.field-0 item at c.in_ok-of.ensures c.in_ok-insert.ensures.updates server origin
    ∙ ap (λ (b : Bool). b || (name_eq at origin && name_eq server item)) (c.loop-server.invariant server origin)
    ∙ servers_more was (name_eq at origin) some (name_eq server item)
    ∙ ap (λ (b : Bool). was || (name_eq at origin && b)) (any-next (name_eq server) servers i item some c.loop-server-test.true c.server-item.is refl)

pub returns : goal.returns
returns c = λ server origin.
    let was = tells c.args.tellers.now server origin in
    c.loop-server.invariant server origin
    ∙ ap (λ (servers : List Labels). was || (name_eq c.args.one.now.origin origin && list_any (name_eq server) servers))
    (take_all c.loop-server.server-index c.items-server-items.result.now c.loop-server-test.false ∙ c.items-server-items.ensures)
