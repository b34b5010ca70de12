use Rattle.std.proofs.Common.{◌≡◌, List, Contains, Some, sym, ◌∙◌, subst}
use Rattle.dns_data.specs.Name.{Labels}
use Rattle.dns_data.specs.declared.rr_type.RrType.{RrType}
use Rattle.plain_resolver.specs.Passed.{HasMoreWalks, most_walks_followed}
use Rattle.report_check.proofs.CountedQueries.{counted_more, counted_same, with_last}
use Rattle.report_check.proofs.counted.put_counted.Goals as goal

pub returns-in_err-copy : goal.returns-in_err-copy
returns-in_err-copy c = λ setting few one. c.take_types-types.ensures.others setting few

pub returns-in_err-insert : goal.returns-in_err-insert
returns-in_err-insert c = λ setting few one.
    counted_same setting c.take_types-types.new.counted c.insert.new.self (c.take_types-types.ensures.others setting few) c.in_err-insert.ensures.err

pub returns : goal.returns
returns c = λ setting few one.
    let asked = c.args.asked.now in
    let key = c.in_ok-copy.field-0 in
    counted_more setting c.take_types-types.new.counted c.insert.new.self key (Some c.push.new.self) (c.take_types-types.ensures.others setting few)
    c.in_ok-insert.ensures.updates
    (λ types rtype e has.
    let same : c.push.new.self ≡ types = cc in
    subst (λ (name : Labels). HasMoreWalks setting name rtype most_walks_followed → ⊥) (sym c.in_ok-copy.ensures)
    (with_last setting asked.query c.take_types-types.result asked.rtype (λ other among. c.take_types-types.ensures.taken setting other few among) one rtype
    (subst (λ (all : List RrType). Contains all rtype) (sym same ∙ c.in_ok-push.ensures.ok) has)))
