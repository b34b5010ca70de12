use Rattle.std.proofs.Common.{arith, inr, refl, sym}
use Rattle.std.proofs.lemmas.Result.{err_from_is_err_and}
use Rattle.dns_data.proofs.Answers.{fault_first}
use Rattle.rdata_forms.specs.Numbers.{number_in}
use Rattle.rdata_forms.specs.Times.{time_in}
use Rattle.rdata_forms.proofs.StartOfAuthority.{seven}
use Rattle.rdata_forms.proofs.forms.read_soa.Goals as goal

pub returns-in_err-number_field : goal.returns-in_err-number_field
returns-in_err-number_field c =
    let p = err_from_is_err_and c.from_residual-in_err-number_field.result c.from_residual-in_err-number_field.ensures.1 in
    let all = seven c.args.tokens.now c.mname-item.result c.rname-item.result c.serial-item.result c.refresh-item.result c.retry-item.result c.expire-item.result c.minimum-item.result
    (omega arith) c.mname-item.is c.rname-item.is c.serial-item.is c.refresh-item.is c.retry-item.is c.expire-item.is c.minimum-item.is in
    rw (p.1, p.2, all, c.in_ok-boxed_name.ensures, c.in_ok-boxed_name-2.ensures) (fault_first _ _ (number_in 4294967295 c.serial-item.result.raw) _ (inr (sym c.in_err-number_field.ensures.number)))

pub returns-in_err-time_field : goal.returns-in_err-time_field
returns-in_err-time_field c =
    let p = err_from_is_err_and c.from_residual-in_err-time_field.result c.from_residual-in_err-time_field.ensures.1 in
    let all = seven c.args.tokens.now c.mname-item.result c.rname-item.result c.serial-item.result c.refresh-item.result c.retry-item.result c.expire-item.result c.minimum-item.result
    (omega arith) c.mname-item.is c.rname-item.is c.serial-item.is c.refresh-item.is c.retry-item.is c.expire-item.is c.minimum-item.is in
    rw (p.1, p.2, all, c.in_ok-boxed_name.ensures, c.in_ok-boxed_name-2.ensures, ← c.in_ok-number_field.ensures.number) (fault_first _ _ (time_in c.refresh-item.result.raw) _ (inr (sym c.in_err-time_field.ensures)))

pub returns-in_err-time_field-2 : goal.returns-in_err-time_field-2
returns-in_err-time_field-2 c =
    let p = err_from_is_err_and c.from_residual-in_err-time_field-2.result c.from_residual-in_err-time_field-2.ensures.1 in
    let all = seven c.args.tokens.now c.mname-item.result c.rname-item.result c.serial-item.result c.refresh-item.result c.retry-item.result c.expire-item.result c.minimum-item.result
    (omega arith) c.mname-item.is c.rname-item.is c.serial-item.is c.refresh-item.is c.retry-item.is c.expire-item.is c.minimum-item.is in
    rw (p.1, p.2, all, c.in_ok-boxed_name.ensures, c.in_ok-boxed_name-2.ensures, ← c.in_ok-number_field.ensures.number, ← c.in_ok-time_field.ensures) (fault_first _ _ (time_in c.retry-item.result.raw) _ (inr (sym c.in_err-time_field-2.ensures)))

pub returns-in_err-time_field-3 : goal.returns-in_err-time_field-3
returns-in_err-time_field-3 c =
    let p = err_from_is_err_and c.from_residual-in_err-time_field-3.result c.from_residual-in_err-time_field-3.ensures.1 in
    let all = seven c.args.tokens.now c.mname-item.result c.rname-item.result c.serial-item.result c.refresh-item.result c.retry-item.result c.expire-item.result c.minimum-item.result
    (omega arith) c.mname-item.is c.rname-item.is c.serial-item.is c.refresh-item.is c.retry-item.is c.expire-item.is c.minimum-item.is in
    rw (p.1, p.2, all, c.in_ok-boxed_name.ensures, c.in_ok-boxed_name-2.ensures, ← c.in_ok-number_field.ensures.number, ← c.in_ok-time_field.ensures, ← c.in_ok-time_field-2.ensures) (fault_first _ _ (time_in c.expire-item.result.raw) _ (inr (sym c.in_err-time_field-3.ensures)))

pub returns-in_err-time_field-4 : goal.returns-in_err-time_field-4
returns-in_err-time_field-4 c =
    let p = err_from_is_err_and c.from_residual-in_err-time_field-4.result c.from_residual-in_err-time_field-4.ensures.1 in
    let all = seven c.args.tokens.now c.mname-item.result c.rname-item.result c.serial-item.result c.refresh-item.result c.retry-item.result c.expire-item.result c.minimum-item.result
    (omega arith) c.mname-item.is c.rname-item.is c.serial-item.is c.refresh-item.is c.retry-item.is c.expire-item.is c.minimum-item.is in
    rw (p.1, p.2, all, c.in_ok-boxed_name.ensures, c.in_ok-boxed_name-2.ensures, ← c.in_ok-number_field.ensures.number, ← c.in_ok-time_field.ensures, ← c.in_ok-time_field-2.ensures, ← c.in_ok-time_field-3.ensures) (fault_first _ _ (time_in c.minimum-item.result.raw) _ (inr (sym c.in_err-time_field-4.ensures)))

pub returns : goal.returns
returns c =
    let all = seven c.args.tokens.now c.mname-item.result c.rname-item.result c.serial-item.result c.refresh-item.result c.retry-item.result c.expire-item.result c.minimum-item.result
    (omega arith) c.mname-item.is c.rname-item.is c.serial-item.is c.refresh-item.is c.retry-item.is c.expire-item.is c.minimum-item.is in
    rw (all, c.in_ok-boxed_name.ensures, c.in_ok-boxed_name-2.ensures, ← c.in_ok-number_field.ensures.number, ← c.in_ok-time_field.ensures, ← c.in_ok-time_field-2.ensures, ← c.in_ok-time_field-3.ensures, ← c.in_ok-time_field-4.ensures) refl
