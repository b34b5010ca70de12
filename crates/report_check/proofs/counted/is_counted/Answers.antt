use Rattle.std.proofs.Common.{List, Contains, sym, subst}
use Rattle.dns_data.specs.declared.rr_type.RrType.{RrType}
use Rattle.report_check.proofs.counted.is_counted.Goals as goal

pub returns-in-Some : goal.returns-in-Some
returns-in-Some c = λ setting few is.
    let asked = c.args.asked.now in
    few asked.query c.in-Some.types.now asked.rtype (sym c.in-Some.ensures.value)
    (subst (λ (types : List RrType). Contains types asked.rtype) c.items.ensures (c.has_type.ensures is))
