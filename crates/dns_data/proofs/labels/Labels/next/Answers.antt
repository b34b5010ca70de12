use Rattle.std.proofs.Common.{◌∙◌, sym, ap, arith, length}
use Rattle.dns_data.proofs.Encodings.{flat_empty, flat_room, flat_top}
use Rattle.dns_data.proofs.labels.Labels.next.Goals as goal

pub returns-in_default-clause-first : goal.returns-in_default-clause-first
returns-in_default-clause-first c = (flat_empty _ _ c.self.invariant c.self.view_is).0 (omega arith)

pub returns-in_default-clause-none : goal.returns-in_default-clause-none
returns-in_default-clause-none c = (flat_empty _ _ c.self.invariant c.self.view_is).0 (omega arith)

pub split_at-requires : goal.split_at-requires
split_at-requires c = flat_room _ c.self.invariant (omega arith)

pub invariant_of-self : goal.invariant_of-self
invariant_of-self c = (flat_top _ _ _ c.self.invariant (omega arith) c.split_at.ensures.front c.split_at.ensures.back).flat

pub returns-clause-first : goal.returns-clause-first
returns-clause-first c = sym c.self.view_is ∙ (flat_top _ _ _ c.self.invariant (omega arith) c.split_at.ensures.front c.split_at.ensures.back).same

pub returns-clause-label : goal.returns-clause-label
returns-clause-label c = (flat_top _ _ _ c.self.invariant (omega arith) c.split_at.ensures.front c.split_at.ensures.back).label

pub returns-clause-none : goal.returns-clause-none
returns-clause-none c =
    let same = sym c.self.view_is ∙ (flat_top _ _ _ c.self.invariant (omega arith) c.split_at.ensures.front c.split_at.ensures.back).same in
    omega (arith, ap length same)
