use Rattle.std.proofs.Common.{◌<◌, ◌++◌, Err, ap, ◌∙◌, take, arith}
use Rattle.dns_data.specs.Name.{Labels, wire_octets}
use Rattle.dns_data.proofs.Names.{name_front}
use Rattle.dns_data.proofs.name.Name.copy_front.Goals as goal

-- the first labels of a name have no more octets than it
pub unreachable-requires : goal.unreachable-requires
unreachable-requires c =
    let long : 255 < wire_octets (c.root.result ++ c.front.result) =
    c.join_labels-2.ensures.too_long.0 (c.in-Err-TooLong.is ∙ ap (λ x. Err x) c.in-Err-TooLong.field-0-is) in
    let short = (name_front c.args.count c.args.self.now c.labels.ensures.name).short in
    let root = ap (λ (x : Labels). wire_octets (x ++ c.front.result)) c.root.ensures in
    let front = ap (λ (x : Labels). wire_octets x) (c.front.ensures ∙ ap (take c.args.count) c.labels.ensures.same) in
    omega (arith, long, short, root, front)
