use Rattle.std.proofs.Common.{◌+◌, None, refl, arith}
use Rattle.dns_data.proofs.NameFronts.{octets_with_label}
use Rattle.query_classes.proofs.ClassLaws.{below_told, empty_full}
use Rattle.query_classes.proofs.live_name.LiveName.has_below.Goals as goal

pub returns-in-None : goal.returns-in-None
returns-in-None c =
    let full = rw c.in-None.is at (c.in_ok-label.ensures c.args.self.now.name c.requires.live) in
    (None, empty_full c.args.graph.now c.graph_is_closed.ensures c.args.self.now.name full, refl)

pub returns-in-Some : goal.returns-in-Some
returns-in-Some c =
    let above = c.args.self.now.name in
    let label = c.in-Some.label in
    let first = rw c.in-Some.is at (c.in_ok-label.ensures above c.requires.live) in
    below_told c.args.graph.now c.graph_is_closed.ensures above label c.requires.named c.labels.ensures.name.labels first (c.octets.result + c.octets-in-Some.result)
    (omega (arith, c.octets.ensures.value, c.octets-in-Some.ensures.value, octets_with_label above label))
