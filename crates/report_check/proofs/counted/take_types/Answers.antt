use Rattle.std.proofs.Common.{None, sym}
use Rattle.report_check.proofs.CountedQueries.{counted_more}
use Rattle.report_check.proofs.counted.take_types.Goals as goal

pub returns-in-Some-clause-taken : goal.returns-in-Some-clause-taken
returns-in-Some-clause-taken c = λ setting rtype few has. few c.args.query.now c.in-Some.types rtype (sym c.in-Some.ensures.value) has

pub returns-in-Some-clause-others : goal.returns-in-Some-clause-others
returns-in-Some-clause-others c = λ setting few.
    counted_more setting c.args.counted.now c.remove.new.self c.args.query.now None few c.remove.ensures.updates (λ types rtype e has. absurd cc)

pub returns-in-None-clause-others : goal.returns-in-None-clause-others
returns-in-None-clause-others c = λ setting few.
    counted_more setting c.args.counted.now c.remove.new.self c.args.query.now None few c.remove.ensures.updates (λ types rtype e has. absurd cc)
