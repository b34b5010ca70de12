use Rattle.std.proofs.Common.{sym, ◌∙◌, arith}
use Rattle.dns_data.proofs.Digits.{number_from-stopped, number_up_to-from}
use Rattle.dns_data.proofs.number.read_number.Goals as goal

pub returns-in_err-value : goal.returns-in_err-value
returns-in_err-value c =
    c.from_residual.ensures
    ∙ sym (number_up_to-from c.args.digits c.args.most c.args.text.now (omega arith) (omega arith)
    ∙ sym c.loop-octet.invariant.whole
    ∙ number_from-stopped c.args.most c.loop-octet.value c.args.text.now c.loop-octet.octet-index (omega arith) c.in_err-value.ensures)
