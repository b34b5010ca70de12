use Rattle.std.proofs.Common.{◌+◌, ◌<◌, get_or, arith, lit<}
use Rattle.rdata_forms.proofs.Hexadecimal.{hex_fits, four_digits, hex_digit-lt}
use Rattle.rdata_forms.proofs.ipv6.read_group.Goals as goal

pub overflow_mul-value : goal.overflow_mul-value
overflow_mul-value c =
    let i = c.loop-octet.octet-index in
    let more = hex_fits c.loop-octet.value 0 i c.loop-octet.invariant.bound (lit< tt) in
    let most = four_digits (i + 1) (omega arith) in
    omega (arith, more, most)

pub overflow_add-value : goal.overflow_add-value
overflow_add-value c =
    let i = c.loop-octet.octet-index in
    let digit = hex_digit-lt (get_or c.args.text.now i 0) c.in_ok-hex_value.ensures.0 in
    let small : c.from.result < 16 = omega (arith, digit, c.from.ensures, c.in_ok-hex_value.ensures.1) in
    let more = hex_fits c.loop-octet.value c.from.result i c.loop-octet.invariant.bound small in
    let most = four_digits (i + 1) (omega arith) in
    omega (arith, more, most)

pub overflow_cast-result : goal.overflow_cast-result
overflow_cast-result c =
    let most = four_digits c.loop-octet.octet-index (omega arith) in
    omega (arith, c.loop-octet.invariant.bound, most)
