use Rattle.std.proofs.Common.{option_map, sym, ap, ◌∙◌}
use Rattle.part_form.specs.Stated.{entry_of}
use Rattle.part_form.proofs.entries.put_stated.Goals as goal

pub returns-in_ok-push-in-Some-clause-stated : goal.returns-in_ok-push-in-Some-clause-stated
returns-in_ok-push-in-Some-clause-stated c = λ tells.
    (c.in-Some.entry, sym c.in_ok-entry.ensures ∙ ap (option_map entry_of) c.in-Some.is, c.in_ok-push-in-Some.ensures.ok)
