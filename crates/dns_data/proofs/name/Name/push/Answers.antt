use Rattle.std.proofs.Common.{ap, length, arith}
use Rattle.dns_data.proofs.Encodings.{flat_push}
use Rattle.dns_data.proofs.name.Name.push.Goals as goal

pub invariant_of-self-2 : goal.invariant_of-self-2
invariant_of-self-2 c =
    let push = flat_push _ _ _ c.self.invariant c.self.view_is c.items-label.ensures.label in
    rw (c.in_ok-append.ensures.ok, c.items-label.ensures.same) (push.flat (omega (arith, push.size, ap length c.items.ensures, ap length c.items-label.ensures.same)))

pub returns-clause-ok : goal.returns-clause-ok
returns-clause-ok c =
    let push = flat_push _ _ _ c.self.invariant c.self.view_is c.items-label.ensures.label in
    rw (c.in_ok-append.ensures.ok, c.items-label.ensures.same) (push.same (omega (arith, push.size, ap length c.items.ensures, ap length c.items-label.ensures.same)))
