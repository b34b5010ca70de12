-- The texts of times: how the seconds that one stands for are worked out. Groups with letters are an extension that name
-- servers share; the limit is that of RFC 2181 section 8. What texts stand for stands in TimeTexts, and a law ties the two.
use Rattle.std.specs.Prelude.{ℕ, ◌+◌, ◌*◌, Bool, true, false, nat_le, List, [], ◌∷◌, Option, Some, None, option_map, option_and_then, Result, if◌then◌else◌, ◌==◌}
use Rattle.std.specs.Option.{ok_or, unwrap_or}
use Rattle.dns_data.specs.Octet.{is_digit, folded, digits_after}
use Rattle.rdata_forms.specs.declared.fault.RdataFault.{RdataFault}
use Rattle.rdata_forms.specs.declared.fault.RdataFault.TheVariants.{BadNumber}

-- how many seconds a letter stands for: w, d, h, m or s in either case
abbrev pub unit_of : ℕ → Option ℕ
unit_of letter =
    if folded letter == 119 then Some 604800
    else if folded letter == 100 then Some 86400
    else if folded letter == 104 then Some 3600
    else if folded letter == 109 then Some 60
    else if folded letter == 115 then Some 1
    else None

-- the value with one digit more
abbrev pub with_digit : Option ℕ → ℕ → ℕ
with_digit value digit = digits_after (unwrap_or value 0) (digit ∷ [])

-- the seconds of a group: digits, and the letter that ends it
abbrev pub time_group_of : Option ℕ → ℕ → Option ℕ
time_group_of None letter = None
time_group_of (Some value) letter = option_map (λ unit. value * unit) (unit_of letter)

-- at the end there are no digits behind groups; digits alone are seconds
abbrev pub at_end : Bool → Option ℕ → Option ℕ
at_end false value = value
at_end true None = Some 0
at_end true (Some value) = None

-- the seconds of a text that stands behind groups or behind none, and behind the digits of this value or behind none
abbrev pub seconds_after : Bool → Option ℕ → List ℕ → Option ℕ
seconds_after grouped value [] = at_end grouped value
seconds_after grouped value (octet ∷ octets) =
    if is_digit octet then seconds_after grouped (Some (with_digit value octet)) octets
    else option_and_then (λ seconds. option_map (λ others. seconds + others) (seconds_after true None octets)) (time_group_of value octet)

-- the seconds, if a TTL may have so many
abbrev pub if_ttl : ℕ → Option ℕ
if_ttl seconds = if nat_le seconds 2147483647 then Some seconds else None

-- the time that a text stands for, in seconds
abbrev pub time_of : List ℕ → Option ℕ
time_of text = option_and_then if_ttl (seconds_after false None text)

-- a time in a field of data
abbrev pub time_in : List ℕ → Result ℕ RdataFault
time_in text = ok_or (time_of text) BadNumber
