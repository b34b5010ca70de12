use Rattle.std.proofs.Common.{◌∙◌, sym, ap}
use Rattle.std.specs.Prelude.{not}
use Rattle.part_checks.specs.Outside.{is_outside}
use Rattle.part_checks.proofs.Prefixes.{held_fails}
use Rattle.part_checks.proofs.sets.NameSets.first_outside.Goals as goal

pub returns-then-has : goal.returns-then-has
returns-then-has c = held_fails c.args.self.now.held (is_outside c.args.self.now) c.args.name.now (λ above held. ap not held) (sym c.has.ensures ∙ c.if-has.true)
