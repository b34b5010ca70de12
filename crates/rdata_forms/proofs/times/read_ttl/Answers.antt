use Rattle.std.proofs.Common.{◌≡◌, ◌<◌, ◌+◌, ◌*◌, ◌-◌, true, false, get_or, sym, ◌∙◌, arith}
use Rattle.dns_data.specs.Octet.{is_digit}
use Rattle.dns_data.proofs.Digits.{too_large}
use Rattle.rdata_forms.proofs.Seconds.{time_from-stopped, under_way-digit, under_way-letter}
use Rattle.rdata_forms.proofs.times.read_ttl.Goals as goal
use Rattle.rdata_forms.proofs.times.read_ttl.Goals.{then-is_ascii_digit+in_ok-with_digit, else-is_ascii_digit+in_ok-value+in_ok-seconds}

pub returns-in_err-with_digit-clause-value : goal.returns-in_err-with_digit-clause-value
returns-in_err-with_digit-clause-value c =
    let octet = get_or c.args.text.now c.loop-octet.octet-index 0 in
    let digit : is_digit octet ≡ true = sym c.is_ascii_digit.ensures.value ∙ c.if-is_ascii_digit.true in
    let large : 2147483647 < c.unwrap_or.result * 10 + (octet - 48) = too_large 2147483647 _ (is_digit octet) digit c.in_err-with_digit.ensures in
    c.from_residual.ensures
    ∙ sym (sym c.loop-octet.invariant.whole
    ∙ time_from-stopped c.loop-octet.seconds c.loop-octet.grouped c.loop-octet.value c.args.text.now c.loop-octet.octet-index (omega arith) digit
    (rw c.unwrap_or.ensures at large))

pub loop-octet-preserved : goal.loop-octet-preserved
loop-octet-preserved c =
    let octet = get_or c.args.text.now c.loop-octet.octet-index 0 in
    elim c.if-is_ascii_digit.branch [
      | then-is_ascii_digit+in_ok-with_digit w ↦
          rw (w.seconds-is, w.value-is, w.grouped-is)
          (under_way-digit c.loop-octet.seconds c.loop-octet.grouped c.loop-octet.value c.args.text.now c.loop-octet.octet-index w.unwrap_or.result _ c.loop-octet.invariant (omega arith)
          w.unwrap_or.ensures w.in_ok-with_digit.ensures.0 w.in_ok-with_digit.ensures.1)
      | else-is_ascii_digit+in_ok-value+in_ok-seconds w ↦
          let letter : is_digit octet ≡ false = sym c.is_ascii_digit.ensures.value ∙ w.if-is_ascii_digit.false in
          rw (w.seconds-is, w.value-is, w.grouped-is)
          (under_way-letter c.loop-octet.seconds c.loop-octet.grouped c.loop-octet.value c.args.text.now c.loop-octet.octet-index w.in_ok-value.field-0 _ c.loop-octet.invariant (omega arith) letter
          w.in_ok-value.was w.in_ok-seconds.ensures)
    ]
