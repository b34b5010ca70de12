use Rattle.std.proofs.Common.{◌∙◌, Some, inl, inr, ap}
use Rattle.dns_data.specs.Name.{Labels}
use Rattle.part_checks.proofs.outside.put_leaving.Goals as goal

pub returns-clause-leaves : goal.returns-clause-leaves
returns-clause-leaves c = λ other has. elim (c.in_ok-put_outside.ensures.added other has) [
  | inl old ↦ inl old
  | inr same ↦ inr (c.in_ok-front.ensures ∙ ap (λ (n : Labels). Some n) same)
]
