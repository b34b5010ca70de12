-- Times at the edges of what is one.
use Rattle.std.specs.Prelude.{◌≡◌, refl, codes, Some, None, Ok, Err}
use Rattle.rdata_forms.specs.Times.{time_of, time_in}
use Rattle.rdata_forms.specs.declared.fault.RdataFault.TheVariants.{BadNumber}

-- digits alone are seconds
seconds_alone : time_of (codes "3600") ≡ Some 3600
seconds_alone = refl

-- no second is a time
zero : time_of (codes "0") ≡ Some 0
zero = refl

-- any number of digits may stand there
leading_zeros : time_of (codes "000000000000000060") ≡ Some 60
leading_zeros = refl

-- more than a TTL may have (RFC 2181 section 8)
one_more_than_the_most : time_of (codes "2147483648") ≡ None
one_more_than_the_most = refl

far_too_many : time_of (codes "99999999999999999999") ≡ None
far_too_many = refl

-- each letter's seconds
one_week : time_of (codes "1w") ≡ Some 604800
one_week = refl

one_day : time_of (codes "1d") ≡ Some 86400
one_day = refl

one_hour : time_of (codes "1h") ≡ Some 3600
one_hour = refl

one_minute : time_of (codes "1m") ≡ Some 60
one_minute = refl

one_second : time_of (codes "1s") ≡ Some 1
one_second = refl

-- groups are added
an_hour_and_a_half : time_of (codes "1h30m") ≡ Some 5400
an_hour_and_a_half = refl

each_letter_once : time_of (codes "1w2d3h4m5s") ≡ Some 788645
each_letter_once = refl

-- letters stand in either case, in any order, and more than once
capitals : time_of (codes "1W2D3H4M5S") ≡ Some 788645
capitals = refl

a_letter_twice : time_of (codes "1m1h1m") ≡ Some 3720
a_letter_twice = refl

-- the most in groups, and one more
the_most_in_groups : time_of (codes "3550w5d3h14m7s") ≡ Some 2147483647
the_most_in_groups = refl

one_more_in_groups : time_of (codes "3550w5d3h14m8s") ≡ None
one_more_in_groups = refl

-- what is none
no_octet : time_of (codes "") ≡ None
no_octet = refl

a_letter_alone : time_of (codes "h") ≡ None
a_letter_alone = refl

digits_behind_a_group : time_of (codes "1h30") ≡ None
digits_behind_a_group = refl

two_letters_in_a_row : time_of (codes "1hm") ≡ None
two_letters_in_a_row = refl

another_letter : time_of (codes "1y") ≡ None
another_letter = refl

a_sign : time_of (codes "+60") ≡ None
a_sign = refl

a_fraction : time_of (codes "1.5h") ≡ None
a_fraction = refl

-- in a field of data a text that is no time is no number
in_a_field : time_in (codes "15m") ≡ Ok 900
in_a_field = refl

none_in_a_field : time_in (codes "15M0") ≡ Err BadNumber
none_in_a_field = refl
