use Rattle.std.proofs.Common.{◌≡◌, Some, None, List, sym, subst, ◌∙◌, arith}
use Rattle.std.proofs.lemmas.Result.{on_ok_weaker}
use Rattle.net_model.specs.declared.config.Server.{Server}
use Rattle.config_load.specs.Hosted.{server_place, ArePlaces}
use Rattle.config_load.proofs.ServerPlaces.{place_of-below, with_zone-at, with_zone-new, ArePlaces-kept, ArePlaces-pushed}
use Rattle.config_load.proofs.servers.put_zone.Goals as goal

pub push_zone-requires : goal.push_zone-requires
push_zone-requires c =
    let here : server_place c.args.name.now c.args.servers.now.items ≡ Some c.in-Some.place = sym (c.in-Some.ensures ∙ c.get.ensures.value ∙ c.requires c.args.name.now) in
    omega (arith, c.args.servers.now.ok.0, place_of-below c.args.name.now c.args.servers.now.items c.in-Some.place here)

pub returns-in-Some-clause-servers : goal.returns-in-Some-clause-servers
returns-in-Some-clause-servers c =
    let here : server_place c.args.name.now c.args.servers.now.items ≡ Some c.in-Some.place = sym (c.in-Some.ensures ∙ c.get.ensures.value ∙ c.requires c.args.name.now) in
    on_ok_weaker c.push_zone.result (λ put. put ∙ sym (with_zone-at c.args.name.now c.args.zone c.args.servers.now.items c.in-Some.place here)) c.push_zone.ensures

pub returns-in-Some-clause-places : goal.returns-in-Some-clause-places
returns-in-Some-clause-places c =
    let here : server_place c.args.name.now c.args.servers.now.items ≡ Some c.in-Some.place = sym (c.in-Some.ensures ∙ c.get.ensures.value ∙ c.requires c.args.name.now) in
    on_ok_weaker c.push_zone.result (λ put. subst (λ (servers : List Server). ArePlaces c.args.places.now servers) (sym put) (ArePlaces-kept c.args.places.now c.args.name.now c.args.zone c.args.servers.now.items c.in-Some.place c.requires here)) c.push_zone.ensures

pub returns-in-None-clause-servers : goal.returns-in-None-clause-servers
returns-in-None-clause-servers c =
    let here : server_place c.args.name.now c.args.servers.now.items ≡ None = sym (c.in-None.ensures ∙ c.get.ensures.value ∙ c.requires c.args.name.now) in
    on_ok_weaker c.push_server.result (λ put. put ∙ sym (with_zone-new c.args.name.now c.args.zone c.args.servers.now.items here)) c.push_server.ensures.servers

pub returns-in-None-clause-places : goal.returns-in-None-clause-places
returns-in-None-clause-places c =
    let here : server_place c.args.name.now c.args.servers.now.items ≡ None = sym (c.in-None.ensures ∙ c.get.ensures.value ∙ c.requires c.args.name.now) in
    ArePlaces-pushed c.push_server.result c.args.places.now c.push_server.new.places c.args.name.now c.args.zone c.args.servers.now.items c.push_server.new.servers.items c.requires here c.push_server.ensures.servers c.push_server.ensures.places
