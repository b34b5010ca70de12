-- Sets of record types, as a bit for each of the twelve in the order of their numbers.
use Rattle.std.specs.Prelude.{ℕ, Bool, false, List, slice_index_or}
use Rattle.dns_data.specs.declared.rr_type.RrType.{RrType}
use Rattle.dns_data.specs.declared.rr_type.RrType.TheVariants.{A, Ns, Cname, Soa, Ptr, Hinfo, Mx, Txt, Aaaa, Srv, Dname, Caa}

-- the place of a type among the twelve
abbrev pub place_of : RrType → ℕ
place_of A = 0
place_of Ns = 1
place_of Cname = 2
place_of Soa = 3
place_of Ptr = 4
place_of Hinfo = 5
place_of Mx = 6
place_of Txt = 7
place_of Aaaa = 8
place_of Srv = 9
place_of Dname = 10
place_of Caa = 11

-- whether the set has the type
abbrev pub has_bit : List Bool → RrType → Bool
has_bit set rtype = slice_index_or set (place_of rtype) false
