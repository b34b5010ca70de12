use Rattle.std.proofs.Common.{List, ◌++◌, ap, ◌∙◌}
use Rattle.std.proofs.lemmas.List.{take_all}
use Rattle.graph_form.proofs.Verdicts.{put_more, put_all}
use Rattle.address_deps.specs.Dependents.{turns_await}
use Rattle.address_deps.specs.declared.addresses.Turn.{Turn}
use Rattle.address_deps.proofs.Listing.{borrowed_names}
use Rattle.address_deps.proofs.dependents.put_nodes.Goals as goal

pub loop-turns-preserved : goal.loop-turns-preserved
loop-turns-preserved c =
    put_more turns_await c.args.nodes.now c.loop-turns.turns-index (borrowed_names c.args.names.now.items) (borrowed_names c.loop-turns.names.items) c.loop-turns.invariant
    c.turns-item.result (borrowed_names c.put_turns.new.names.items) c.loop-turns-test.true c.turns-item.is
    (c.in_ok-put_turns.ensures ∙ ap (λ (turns : List Turn). borrowed_names c.loop-turns.names.items ++ turns_await turns) c.items.ensures)

pub returns : goal.returns
returns c =
    put_all turns_await c.args.nodes.now c.loop-turns.turns-index (borrowed_names c.args.names.now.items) (borrowed_names c.loop-turns.names.items) c.loop-turns.invariant
    (take_all c.loop-turns.turns-index c.args.nodes.now c.loop-turns-test.false)
