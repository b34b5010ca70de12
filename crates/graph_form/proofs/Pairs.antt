-- How many pairs an arm has.
use Rattle.std.proofs.Common.{◌≡◌, length}
use Rattle.std.proofs.lemmas.List.{length-map}
use Rattle.dns_data.specs.declared.rr_type.RrType.{RrType}
use Rattle.net_model.specs.declared.walk.State.{State}
use Rattle.graph_form.specs.Graph.{arm_pairs, types_of}
use Rattle.graph_form.specs.declared.node.Arm.{Arm}

-- an arm has a pair for each of its types
pub arm_count : (state : State) (arm : Arm) → length (arm_pairs state arm) ≡ length (types_of arm)
arm_count state arm =
    let pair : RrType → State × RrType = λ rtype. (state, rtype) in
    length-map (types_of arm) pair
