-- The kinds of faults that delegations show, and what is known of the graph in which they are looked for.
use Rattle.std.specs.Prelude.{◌≡◌, Bool, true, false, ◌&&◌}
use Rattle.dns_data.specs.Name.{Labels}
use Rattle.graph_form.specs.EndFaults as ends
use Rattle.graph_form.specs.Graph.{PlainGraph}
use Rattle.graph_form.specs.GraphOf.{IsExactIn, IsGraphOf}
use Rattle.net_model.specs.Step.{Setting}
use Rattle.net_model.specs.declared.config.Config.{Config}
use Rattle.net_model.specs.declared.deps.Deps.{Deps}
use Rattle.net_model.specs.declared.fault.Fault.{Fault}
use Rattle.net_model.specs.declared.fault.Fault.TheVariants.{Lame, Differs, NoGlue, GlueDiffers, Cyclic, NoAddress}

-- a lame or differing delegation, missing or differing glue, a cyclic dependency, or a name server without an address
abbrev pub is_of_delegations : Fault → Bool
is_of_delegations (Lame cut) = true
is_of_delegations (Differs cut) = true
is_of_delegations (NoGlue cut) = true
is_of_delegations (GlueDiffers cut) = true
is_of_delegations (Cyclic cut) = true
is_of_delegations (NoAddress cut) = true
is_of_delegations fault = false

-- the fault of an end is one of delegations, and is shown with these lists of learnt addresses
abbrev pub is_shown : Deps → Fault → Bool
is_shown deps fault = is_of_delegations fault && ends.is_shown deps fault

-- the graph is that of the query in the configuration
pub record IsGraphIn (config : Config) (setting : Setting) (query : Labels) (graph : PlainGraph) : Type 0 where
  pub config_is : setting.config ≡ config
  pub is_graph : IsGraphOf setting query graph
  pub exact : IsExactIn setting query graph
