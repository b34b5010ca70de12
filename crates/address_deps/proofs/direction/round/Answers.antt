use Rattle.std.proofs.Common.{ℕ, ◌+◌, ◌<◌, List, get_or, length, refl, sym, ◌∙◌, subst, arith}
use Rattle.std.proofs.lemmas.List.Elements.{Contains-get_or}
use Rattle.dns_data.specs.Listed.{places_of}
use Rattle.address_deps.specs.Direction.{IsFair, IsSettledAt, unmoved}
use Rattle.address_deps.proofs.Moves.{are_servers, moved_settled, still_settled}
use Rattle.address_deps.proofs.Rounds.{IsRoundAt, round_begins, round_changed, round_ends, round_same}
use Rattle.address_deps.proofs.Waking.{server_at}
use Rattle.address_deps.proofs.direction.round.Goals as goal
use Rattle.address_deps.proofs.direction.round.Goals.{then-branch+in_ok-wake, else-branch}

pub move_at-requires : goal.move_at-requires
move_at-requires c =
    let place : ℕ = get_or c.args.waiting.now c.loop-place.place-index 0 in
    record {
      many = c.requires.many;
      within = c.requires.round.within place (Contains-get_or c.args.waiting.now c.loop-place.place-index 0 c.loop-place-test.true);
      fair = c.loop-place.invariant.good;
    }

pub wake-requires : goal.wake-requires
wake-requires c =
    let place : ℕ = get_or c.args.waiting.now c.loop-place.place-index 0 in
    let within = c.requires.round.within place (Contains-get_or c.args.waiting.now c.loop-place.place-index 0 c.loop-place-test.true) in
    omega (arith, within, c.requires.many)

pub loop-place-init : goal.loop-place-init
loop-place-init c =
    let config = c.args.hosts.now in
    let addresses = c.args.addresses.now in
    let d = c.args.direction in
    subst (IsRoundAt (IsFair d config addresses) (IsSettledAt d config addresses) (unmoved d config.servers) addresses c.args.waiting.now c.args.names.now 0 c.args.names.now) (sym c.new-next.ensures)
    (round_begins (IsFair d config addresses) (IsSettledAt d config addresses) (unmoved d config.servers) addresses c.args.waiting.now c.args.names.now c.requires.round)

pub loop-place-preserved : goal.loop-place-preserved
loop-place-preserved c =
    let config = c.args.hosts.now in
    let addresses = c.args.addresses.now in
    let d = c.args.direction in
    let places = c.args.dependents.now.places in
    let waiting : List ℕ = c.args.waiting.now in
    let first = c.args.names.now in
    let at = c.loop-place.place-index in
    let here : at < length waiting = c.loop-place-test.true in
    let place : ℕ = get_or waiting at 0 in
    let in_graphs : place < length addresses = c.requires.round.within place (Contains-get_or waiting at 0 here) in
    let server = server_at config place (omega (arith, in_graphs, c.requires.many)) in
    let old = c.loop-place.names in
    let new = c.move_at.new.names in
    let next : List ℕ = c.loop-place.next in
    let on = c.loop-place.invariant in
    elim c.if-branch.branch [
      | then-branch+in_ok-wake w ↦
          let moved = c.in_ok-move_at.ensures.moved w.if-branch.true server.0 server.1 in
          subst (IsRoundAt (IsFair d config addresses) (IsSettledAt d config addresses) (unmoved d config.servers) addresses waiting first (at + 1) new)
          (sym (w.next-is ∙ w.in_ok-wake.ensures server.0 server.1))
          (round_changed (IsFair d config addresses) (IsSettledAt d config addresses) (unmoved d config.servers) addresses waiting first at place here refl old next on new
          (places_of places server.0.name) c.in_ok-move_at.ensures.fair (c.in_ok-move_at.ensures.fewer w.if-branch.true)
          (moved_settled d config addresses place server.0 old new server.1 moved)
          (still_settled config addresses places c.requires.dependents old new (are_servers d config addresses old on.good)
          (are_servers d config addresses new c.in_ok-move_at.ensures.fair) server.0.name d moved)
          (λ other has. c.requires.dependents.within server.0.name other has))
      | else-branch w ↦
          let same = c.in_ok-move_at.ensures.same w.if-branch.false in
          subst (λ next. IsRoundAt (IsFair d config addresses) (IsSettledAt d config addresses) (unmoved d config.servers) addresses waiting first (at + 1) new next) (sym w.next-is)
          (subst (λ names. IsRoundAt (IsFair d config addresses) (IsSettledAt d config addresses) (unmoved d config.servers) addresses waiting first (at + 1) names next) (sym same)
          (round_same (IsFair d config addresses) (IsSettledAt d config addresses) (unmoved d config.servers) addresses waiting first at place here refl old next on
          (c.in_ok-move_at.ensures.settled w.if-branch.false)))
    ]

pub returns : goal.returns
returns c =
    let config = c.args.hosts.now in
    let addresses = c.args.addresses.now in
    let d = c.args.direction in
    let on = c.loop-place.invariant in
    record {
      round = round_ends (IsFair d config addresses) (IsSettledAt d config addresses) (unmoved d config.servers) addresses c.args.waiting.now c.args.names.now c.loop-place.place-index
          c.loop-place.names c.loop-place.next c.loop-place-test.false on;
      fewer = on.fewer;
      no_more = on.no_more;
    }
