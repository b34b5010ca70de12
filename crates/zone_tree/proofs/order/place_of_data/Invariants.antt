use Rattle.net_model.specs.Zone.{data_cmp}
use Rattle.zone_tree.proofs.InPlace.{StandsBehind}
use Rattle.zone_tree.proofs.order.place_of_data.Given as goal

-- the data stand behind those looked at
abbrev pub invariant-loop-place : goal.invariant-loop-place
invariant-loop-place l = StandsBehind data_cmp l.rdata l.set l.place
