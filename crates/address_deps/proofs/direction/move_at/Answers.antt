use Rattle.std.proofs.Common.{◌≡◌, ◌<◌, not, length, refl, sym, ap, ◌∙◌, subst, arith}
use Rattle.std.specs.Cmp.{booleans_Decides}
use Rattle.std.proofs.Math.Bool.{beq}
use Rattle.std.proofs.lemmas.Bool.{not-false, not-true}
use Rattle.std.proofs.lemmas.Option.{slice_get_read}
use Rattle.dns_data.specs.Name.{Labels, is_among}
use Rattle.address_deps.specs.Direction.{IsMoved}
use Rattle.address_deps.proofs.Moves.{TellsLearnt, are_servers, by_address, contrary, fewer_unmoved, kept_settled, still_fair, learnt_settled}
use Rattle.address_deps.proofs.Waking.{server_at}
use Rattle.address_deps.proofs.direction.move_at.Goals as goal

pub returns-then-has-adds-clause-settled : goal.returns-then-has-adds-clause-settled
returns-then-has-adds-clause-settled c = λ e.
    let config = c.args.hosts.now in
    let names = c.args.names.now in
    let within : c.args.place < length config.servers = omega (arith, c.requires.within, c.requires.many) in
    let server = server_at config c.args.place within in
    let alike : c.has.result ≡ c.adds.result = (booleans_Decides c.has.result c.adds.result).0 c.if-has-adds.true in
    kept_settled config c.args.addresses.now names c.args.place server.0 server.1 c.args.direction
    (ap (is_among names) (sym (c.name_at-name.ensures server.0 server.1)) ∙ sym c.has.ensures ∙ alike ∙ c.adds.ensures)

pub returns-then-branch-adds-clause-settled : goal.returns-then-branch-adds-clause-settled
returns-then-branch-adds-clause-settled c = λ e.
    let config = c.args.hosts.now in
    let addresses = c.args.addresses.now in
    let names = c.args.names.now in
    let within : c.args.place < length config.servers = omega (arith, c.requires.within, c.requires.many) in
    let server = server_at config c.args.place within in
    let learnt = c.in_ok-learns.field-0 in
    let one = c.index-addresses-place.result in
    let tells : TellsLearnt config addresses names c.args.place server.0 server.1 learnt =
    by_address config addresses names c.args.place server.0 server.1 one learnt (slice_get_read addresses (length addresses) c.args.place one refl c.requires.within c.index-addresses-place.is)
    (are_servers c.args.direction config addresses names c.requires.fair) c.in_ok-learns.ensures in
    let unlike : learnt ≡ not c.adds-2.result = contrary learnt c.adds-2.result (not-true (beq learnt c.adds-2.result) c.if-branch-adds.true) in
    learnt_settled config addresses names c.args.place server.0 server.1 c.args.direction learnt tells (unlike ∙ ap not c.adds-2.ensures)

pub returns-clause-fair : goal.returns-clause-fair
returns-clause-fair c =
    let config = c.args.hosts.now in
    let addresses = c.args.addresses.now in
    let names = c.args.names.now in
    let new = c.change.new.names in
    let within : c.args.place < length config.servers = omega (arith, c.requires.within, c.requires.many) in
    let server = server_at config c.args.place within in
    let name_is = c.name_at-name.ensures server.0 server.1 in
    let learnt = c.in_ok-learns.field-0 in
    let one = c.index-addresses-place.result in
    let tells : TellsLearnt config addresses names c.args.place server.0 server.1 learnt =
    by_address config addresses names c.args.place server.0 server.1 one learnt (slice_get_read addresses (length addresses) c.args.place one refl c.requires.within c.index-addresses-place.is)
    (are_servers c.args.direction config addresses names c.requires.fair) c.in_ok-learns.ensures in
    let unlike : c.has.result ≡ not c.adds.result = contrary c.has.result c.adds.result c.if-has-adds.false in
    let alike : learnt ≡ c.adds-2.result = (booleans_Decides learnt c.adds-2.result).0 (not-false (beq learnt c.adds-2.result) c.if-branch-adds.false) in
    still_fair config addresses names c.args.place server.0 server.1 c.args.direction new learnt
    (ap (is_among names) (sym name_is) ∙ sym c.has.ensures ∙ unlike ∙ ap not c.adds.ensures)
    (subst (λ (name : Labels). IsMoved c.args.direction name names new) name_is c.in_ok-change.ensures)
    tells (alike ∙ c.adds-2.ensures) c.requires.fair

pub returns-clause-fewer : goal.returns-clause-fewer
returns-clause-fewer c = λ e.
    let config = c.args.hosts.now in
    let names = c.args.names.now in
    let new = c.change.new.names in
    let within : c.args.place < length config.servers = omega (arith, c.requires.within, c.requires.many) in
    let server = server_at config c.args.place within in
    let name_is = c.name_at-name.ensures server.0 server.1 in
    let unlike : c.has.result ≡ not c.adds.result = contrary c.has.result c.adds.result c.if-has-adds.false in
    fewer_unmoved config c.args.addresses.now names c.args.place server.0 server.1 c.args.direction new
    (ap (is_among names) (sym name_is) ∙ sym c.has.ensures ∙ unlike ∙ ap not c.adds.ensures)
    (subst (λ (name : Labels). IsMoved c.args.direction name names new) name_is c.in_ok-change.ensures)

pub returns-clause-moved : goal.returns-clause-moved
returns-clause-moved c = λ e server there.
    subst (λ (name : Labels). IsMoved c.args.direction name c.args.names.now c.change.new.names) (c.name_at-name.ensures server there) c.in_ok-change.ensures
