use Rattle.std.proofs.Common.{take}
use Rattle.dns_data.specs.RrType.{types}
use Rattle.rewrite_checks.specs.Answers.{PutsAnswers}
use Rattle.rewrite_checks.proofs.answers.put_answers.Given as goal

-- those of the types so far
abbrev pub invariant-loop-rtype : goal.invariant-loop-rtype
invariant-loop-rtype l = PutsAnswers l.class l.graph (take l.rtype-index types) l.fn.seen l.seen
