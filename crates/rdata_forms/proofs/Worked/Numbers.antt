-- Numbers at their bounds.
use Rattle.std.specs.Prelude.{◌≡◌, refl, codes, Ok, Err}
use Rattle.rdata_forms.specs.Numbers.{number_in}
use Rattle.rdata_forms.specs.declared.fault.RdataFault.TheVariants.{BadNumber}

zero : number_in 255 (codes "0") ≡ Ok 0
zero = refl

-- flags have an octet
the_most_flags : number_in 255 (codes "255") ≡ Ok 255
the_most_flags = refl

too_many_flags : number_in 255 (codes "256") ≡ Err BadNumber
too_many_flags = refl

-- a port has two octets
the_last_port : number_in 65535 (codes "65535") ≡ Ok 65535
the_last_port = refl

no_port : number_in 65535 (codes "65536") ≡ Err BadNumber
no_port = refl

-- a serial number has four
the_last_serial : number_in 4294967295 (codes "4294967295") ≡ Ok 4294967295
the_last_serial = refl

no_serial : number_in 4294967295 (codes "4294967296") ≡ Err BadNumber
no_serial = refl

-- ten digits, and eleven
ten_digits : number_in 255 (codes "0000000007") ≡ Ok 7
ten_digits = refl

eleven_digits : number_in 255 (codes "00000000007") ≡ Err BadNumber
eleven_digits = refl

-- what is none
no_digit : number_in 255 (codes "") ≡ Err BadNumber
no_digit = refl

a_sign : number_in 255 (codes "+1") ≡ Err BadNumber
a_sign = refl

hexadecimal : number_in 255 (codes "0x1") ≡ Err BadNumber
hexadecimal = refl

-- the octets next to the digits: `/` and `:`
below_the_digits : number_in 255 (codes "1/") ≡ Err BadNumber
below_the_digits = refl

above_the_digits : number_in 255 (codes "1:") ≡ Err BadNumber
above_the_digits = refl

-- a number has no unit
a_time : number_in 255 (codes "1m") ≡ Err BadNumber
a_time = refl

-- an escape isn't resolved
an_escape : number_in 255 (codes "\\049") ≡ Err BadNumber
an_escape = refl
