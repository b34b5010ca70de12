use Rattle.std.proofs.Common.{◌≡◌, ◌<◌, ap, ◌∙◌, subst}
use Rattle.std.proofs.lemmas.Result.{IfOk-weaker}
use Rattle.dns_data.specs.Name.{Labels, swap, wire_octets}
use Rattle.dns_data.specs.declared.fault.JoinFault.TheVariants as JoinFault
use Rattle.net_model.specs.declared.place.Place.{Place}
use Rattle.zone_tree.specs.Tree.{name_of}
use Rattle.straight_walks.specs.Searching.{IsAnsweredBehind}
use Rattle.straight_walks.proofs.RedirectedAnswers.{is_within, no_fault, redirection_answers}
use Rattle.straight_walks.proofs.answering.put_redirected.Goals as goal

pub returns-in-Ok : goal.returns-in-Ok
returns-in-Ok c =
    let made : c.in-Ok.to ≡ swap c.args.asked.name.now (name_of c.args.tree.now c.args.owner) c.args.target.now =
    c.in-Ok.ensures.ok ∙ ap (λ (owner : Labels). swap c.args.asked.name.now owner c.args.target.now) c.name.ensures in
    IfOk-weaker c.put_behind.result _ _
    (λ answered so yes.
    redirection_answers c.args.asked.hosts.now c.args.asked.name.now c.args.one.server.now c.args.tree c.args.owner c.args.target c.requires c.in-Ok.to made
    (is_within 255 (wire_octets c.in-Ok.to)
    (λ more. no_fault c.in-Ok.to JoinFault.TooLong (c.in-Ok.ensures.too_long.1 (subst (λ (name : Labels). 255 < wire_octets name) c.in-Ok.ensures.ok more)))) c.args.ends.now c.put_behind.new.ends
    (subst (λ (place : Place). IsAnsweredBehind c.args.asked.hosts.now c.args.one.server.now c.in-Ok.to 1 place c.args.ends.now c.put_behind.new.ends) c.of_owner.ensures (so yes)))
    c.put_behind.ensures
