use Rattle.std.proofs.Common.{◌≤◌, refl, subst, arith}
use Rattle.dns_data.specs.Name.{wire_octets}
use Rattle.label_graph.specs.Pairs.{AreSame}
use Rattle.net_model.specs.Reading.{ground_of}
use Rattle.net_model.specs.declared.class.Class.TheVariants.{Below}
use Rattle.net_model.specs.declared.config.Config.{Config}
use Rattle.call_tests.proofs.OpenNames.{open_below}
use Rattle.call_tests.proofs.tests.open_tails.is_open.Goals as goal

pub returns : goal.returns
returns c = λ is_open.
    let short : wire_octets c.args.name.now ≤ 255 = omega (arith, c.octets.ensures.value, c.octets.ensures.within) in
    let below = c.in_ok-is_below.ensures is_open in
    open_below c.args.config.now c.in_ok-graph.graph c.args.name.now below.0 (Below below.0) short
    (subst (λ (config : Config). AreSame c.in_ok-graph.graph (ground_of config)) c.in_ok-hosts.ensures c.in_ok-graph.ensures.same) below.1 refl
