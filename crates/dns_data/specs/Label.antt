-- Labels (RFC 1035 sections 2.3.4 and 3.1).
use Rattle.std.specs.Prelude.{◌≡◌, ℕ, ◌<◌, ◌≤◌, Bool, true, ◌&&◌, not, nat_eq, nat_lt, List, length, map, if◌then◌else◌, ◌==◌, Result, Ok, Err}
use Rattle.std.specs.List.{list_all}
use Rattle.std.specs.Cmp.Lexicographic.{slice_cmp}
use Rattle.std.specs.Ordering.{nat_cmp}
use Rattle.std.specs.declared.cmp.Ordering.{Ordering}
use lib.Pointwise.{pointwise}
use Rattle.dns_data.specs.Octet.{is_upper, folded}
use Rattle.dns_data.specs.declared.fault.NameFault.{NameFault}
use Rattle.dns_data.specs.declared.fault.NameFault.TheVariants.{EmptyLabel, LabelTooLong}

-- an octet that a label may have: any but A to Z
abbrev pub is_label_octet : ℕ → Bool
is_label_octet octet = nat_lt octet 256 && not (is_upper octet)

-- 1 to 63 octets without A to Z
pub record IsLabel (label : List ℕ) : Type 0 where
  pub not_empty : 0 < length label
  pub short : length label ≤ 63
  pub octets : list_all is_label_octet label ≡ true

-- two labels are one
abbrev pub label_eq : List ℕ → List ℕ → Bool
label_eq a b = pointwise nat_eq a b

-- the order of labels: by their octets, a proper front first
abbrev pub label_cmp : List ℕ → List ℕ → Ordering
label_cmp a b = slice_cmp nat_cmp a b

-- the label with these octets, folded, or why there is none
abbrev pub label_of : List ℕ → Result (List ℕ) NameFault
label_of octets =
    if length octets == 0 then Err EmptyLabel
    else (if nat_lt 63 (length octets) then Err LabelTooLong else Ok (map folded octets))
