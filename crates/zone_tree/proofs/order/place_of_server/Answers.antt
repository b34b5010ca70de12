use Rattle.std.proofs.Common.{◌≡◌, ◌<◌, List, [], map, length, get_or, sym, ap, ◌∙◌, arith}
use Rattle.std.proofs.lemmas.List.{length-map}
use Rattle.dns_data.specs.Name.{Labels, name_cmp}
use Rattle.zone_tree.proofs.ByText.{now_of}
use Rattle.zone_tree.proofs.InPlace.{behind_more, put_before, put_nowhere, name_at}
use Rattle.zone_tree.proofs.order.place_of_server.Goals as goal

pub returns-in-Less-clause-puts : goal.returns-in-Less-clause-puts
returns-in-Less-clause-puts c =
    let server = c.args.server.now in
    let names : List Labels = map now_of c.args.servers.now in
    let place = c.loop-place.place in
    let within : place < length names = omega (arith, c.loop-place-test.true, length-map c.args.servers.now now_of) in
    let here : get_or names place [] ≡ c.index-servers-place.result.now =
    name_at c.args.servers.now place c.index-servers-place.result c.loop-place-test.true c.index-servers-place.is in
    put_before name_cmp server names place [] within (ap (name_cmp server) here ∙ sym c.compare.ensures.value ∙ c.in-Less.is) c.loop-place.invariant

pub returns-in-Equal-clause-puts : goal.returns-in-Equal-clause-puts
returns-in-Equal-clause-puts c =
    let server = c.args.server.now in
    let names : List Labels = map now_of c.args.servers.now in
    let place = c.loop-place.place in
    let within : place < length names = omega (arith, c.loop-place-test.true, length-map c.args.servers.now now_of) in
    let here : get_or names place [] ≡ c.index-servers-place.result.now =
    name_at c.args.servers.now place c.index-servers-place.result c.loop-place-test.true c.index-servers-place.is in
    put_nowhere name_cmp server names place [] within (ap (name_cmp server) here ∙ sym c.compare.ensures.value ∙ c.in-Equal.is) c.loop-place.invariant

pub loop-place-preserved : goal.loop-place-preserved
loop-place-preserved c =
    let server = c.args.server.now in
    let names : List Labels = map now_of c.args.servers.now in
    let place = c.loop-place.place in
    let within : place < length names = omega (arith, c.loop-place-test.true, length-map c.args.servers.now now_of) in
    let here : get_or names place [] ≡ c.index-servers-place.result.now =
    name_at c.args.servers.now place c.index-servers-place.result c.loop-place-test.true c.index-servers-place.is in
    behind_more name_cmp server names place [] within (ap (name_cmp server) here ∙ sym c.compare.ensures.value ∙ c.in-Greater.is) c.loop-place.invariant
