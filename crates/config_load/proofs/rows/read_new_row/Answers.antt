use Rattle.std.proofs.Common.{Ok, refl}
use Rattle.config_load.proofs.LeftRows.{left_passed, left_wanting, taken_more}
use Rattle.config_load.proofs.rows.read_new_row.Goals as goal

pub returns-in_err-read-clause-reads : goal.returns-in_err-read-clause-reads
returns-in_err-read-clause-reads g c first zones are =
    left_passed c.in_err-read.field-0.0 c.from_residual.result c.from_residual.ensures.1 c.in_err-read.ensures.reads

pub returns-in_err-kept-clause-reads : goal.returns-in_err-kept-clause-reads
returns-in_err-kept-clause-reads g c first zones are =
    left_wanting c.from_residual-in_err-kept.result c.in_ok-read.ensures.reads.source c.from_residual-in_err-kept.ensures.1

pub returns-clause-reads : goal.returns-clause-reads
returns-clause-reads g c first zones are = record {
  whole = Ok c.in_ok-read.read;
  answered = c.in_ok-read.ensures.reads;
  is = (
    c.in_ok-read.read,
    refl,
    c.in_ok-kept.ensures.left,
    taken_more (g.T.ZoneTaker.took first c.args.taker.now) zones c.in_ok-read.read.zone (g.T.ZoneTaker.took first c.taken.new.taker) are (c.in_ok-kept.ensures.took first),
  );
}
