use Rattle.std.proofs.Common.{None, ap, sym, ◌∙◌}
use Rattle.dns_data.specs.Name.{name_cmp}
use Rattle.alias_ends.specs.Known.{ends_in}
use Rattle.alias_ends.proofs.KnownAnswers.{known_more, known_same, one_name}
use Rattle.alias_ends.proofs.known.keep.Goals as goal

pub returns-in_err-insert : goal.returns-in_err-insert
returns-in_err-insert c = λ setting rtype known are.
    known_same name_cmp (ends_in setting rtype None) c.args.known.now c.insert.new.self known c.in_err-insert.ensures.err

pub returns : goal.returns
returns c = λ setting rtype known are.
    known_more name_cmp (ends_in setting rtype None) one_name c.args.known.now c.insert.new.self c.in_ok-copy.field-0 c.in_ok-ends.ends known
    c.in_ok-insert.ensures.updates (c.in_ok-ends.ensures ∙ are ∙ ap (ends_in setting rtype None) (sym c.in_ok-copy.ensures))
