use Rattle.std.proofs.Common.{refl}
use Rattle.std.proofs.lemmas.Result.{IfOk-weaker}
use Rattle.net_model.specs.declared.fault.Fault.TheVariants as faults
use Rattle.report_check.proofs.TwoWalks.{answers_shown}
use Rattle.report_check.proofs.right_entry.shows_answers.Goals as goal

pub returns-clause-shown : goal.returns-clause-shown
returns-clause-shown c =
    let query = c.args.asked.now.query in
    let rtype = c.args.asked.now.rtype in
    let class = c.in_ok-class.class in
    IfOk-weaker c.is_entry_of.result _ _
    (λ shown told value written. (
      (λ e. record {
        fault = faults.Answers class rtype;
        may = (refl, c.in_ok-class.ensures.class);
        show = c.requires;
        is = (told value written).0 e;
      }),
      (λ by. (told value written).1
          (answers_shown c.args.checker.now query rtype class c.in_ok-class.ensures.one c.args.one.now c.args.other.now value by)),
    ))
    c.is_entry_of.ensures
