use Rattle.std.proofs.Common.{List, take, sym, subst}
use Rattle.std.proofs.lemmas.List.{take_all, take_more}
use Rattle.dns_data.specs.RrType.{types}
use Rattle.dns_data.specs.declared.rr_type.RrType.{RrType}
use Rattle.rewrite_checks.specs.Answers.{PutsAnswers}
use Rattle.rewrite_checks.proofs.Wholly.{more_put, none_put}
use Rattle.rewrite_checks.proofs.answers.put_answers.Goals as goal

pub loop-rtype-init : goal.loop-rtype-init
loop-rtype-init c = none_put c.args.class.now c.args.graph.now c.args.seen.now

pub loop-rtype-preserved : goal.loop-rtype-preserved
loop-rtype-preserved c =
    let i = c.loop-rtype.rtype-index in
    subst (λ (ts : List RrType). PutsAnswers c.args.class.now c.args.graph.now ts c.args.seen.now c.put_type.new.seen)
    (sym (take_more types i _ c.loop-rtype-test.true))
    (more_put c.args.class.now c.args.graph.now (take i types) _ c.args.seen.now c.loop-rtype.seen c.put_type.new.seen c.loop-rtype.invariant c.in_ok-put_type.ensures)

pub returns : goal.returns
returns c =
    subst (λ (ts : List RrType). PutsAnswers c.args.class.now c.args.graph.now ts c.args.seen.now c.loop-rtype.seen)
    (take_all c.loop-rtype.rtype-index types c.loop-rtype-test.false) c.loop-rtype.invariant
