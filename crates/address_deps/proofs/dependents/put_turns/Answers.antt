use Rattle.std.proofs.lemmas.List.{take_all}
use Rattle.graph_form.proofs.Verdicts.{put_more, put_all}
use Rattle.address_deps.specs.Dependents.{turn_awaits}
use Rattle.address_deps.proofs.Listing.{borrowed_names}
use Rattle.address_deps.proofs.dependents.put_turns.Goals as goal

pub loop-turn-preserved : goal.loop-turn-preserved
loop-turn-preserved c =
    put_more turn_awaits c.args.turns.now c.loop-turn.turn-index (borrowed_names c.args.names.now.items) (borrowed_names c.loop-turn.names.items) c.loop-turn.invariant
    c.turn-item.result (borrowed_names c.put_turn.new.names.items) c.loop-turn-test.true c.turn-item.is c.in_ok-put_turn.ensures

pub returns : goal.returns
returns c =
    put_all turn_awaits c.args.turns.now c.loop-turn.turn-index (borrowed_names c.args.names.now.items) (borrowed_names c.loop-turn.names.items) c.loop-turn.invariant
    (take_all c.loop-turn.turn-index c.args.turns.now c.loop-turn-test.false)
