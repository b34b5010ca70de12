use Rattle.std.proofs.Common.{◌<◌, ◌-◌, ◌∙◌, length, ap, sym, arith}
use Rattle.std.specs.List.{common_prefix_len}
use Rattle.dns_data.specs.Label.{label_eq}
use Rattle.dns_data.specs.Name.{Labels}
use Rattle.label_graph.proofs.NewFronts.{shared_known}
use Rattle.label_graph.proofs.fronts.known_fronts.Goals as goal

pub returns-in-Some : goal.returns-in-Some
returns-in-Some c count few =
    let size = ap (λ (n : Labels). common_prefix_len label_eq n c.labels-in-Some.result) c.labels.ensures.same
    ∙ ap (λ (n : Labels). common_prefix_len label_eq c.in-Some.last.now n) c.labels-in-Some.ensures.same in
    let item = c.in-Some.ensures.item in
    let some : 0 < length c.args.names.now = item.3.0 in
    shared_known c.args.names.now c.in-Some.last.now c.args.name.now c.requires (length c.args.names.now - 1, omega (arith, some), sym item.1) count
    (omega (arith, few, c.common_len.ensures.value ∙ size))
