use Rattle.query_verdicts.proofs.KeptEntries.{listing_step, listing_ends, next_right}
use Rattle.query_verdicts.proofs.report.kept_by_class.Goals as goal

pub put_kept-requires-clause-right : goal.put_kept-requires-clause-right
put_kept-requires-clause-right g c =
    next_right g.S.OnSubject.subject g.K.Kept.kept_of c.args.found c.loop-one.one-iterator c.next.new.self c.in-Some.one c.loop-one.kept
    c.in-Some.ensures.steps c.loop-one.invariant.listed c.requires.right

pub loop-one-preserved : goal.loop-one-preserved
loop-one-preserved g c =
    record {
      listed =
          listing_step g.S.OnSubject.subject g.K.Kept.kept_of c.args.found c.loop-one.one-iterator c.next.new.self c.in-Some.one c.loop-one.kept
          c.in-Some.ensures.steps c.loop-one.invariant.listed c.put_kept.new.kept c.in_ok-walked.ensures.put;
      last = c.in_ok-walked.ensures.walked;
    }

pub returns : goal.returns
returns g c =
    listing_ends g.S.OnSubject.subject g.K.Kept.kept_of c.args.found c.loop-one.one-iterator c.loop-one.kept c.in-None.ensures.steps.0 c.loop-one.invariant.listed
