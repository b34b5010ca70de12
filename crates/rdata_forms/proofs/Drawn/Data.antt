-- Data of the types drawn at random.
-- docs/draw.py works them out once more, by plain rules.
use Rattle.std.specs.Prelude.{◌≡◌, refl, [], ◌∷◌, codes, Ok, Err}
use Rattle.dns_data.specs.declared.fault.NameFault.TheVariants.{EmptyLabel, LabelTooLong, BadEscape}
use Rattle.dns_data.specs.declared.rdata.Rdata.TheVariants.{A, Ns, Cname, Soa, Ptr, Hinfo, Mx, Txt, Aaaa, Srv, Dname, Caa}
use Rattle.dns_data.specs.declared.rr_type.RrType.TheVariants as types
use Rattle.rdata_forms.specs.Forms.{rdata_of}
use Rattle.rdata_forms.specs.declared.fault.RdataFault.TheVariants.{FieldCount, BadNumber, BadAddress, BadName, GenericKnown}
use Rattle.rdata_forms.proofs.Worked.Words.{in_quotes, token}

data_0 : rdata_of types.A (in_quotes "1.00.100.9" ∷ []) (codes "edu" ∷ codes "isi" ∷ []) ≡ Err BadAddress
data_0 = refl

data_1 : rdata_of types.A (token "199.99.256.10" ∷ []) (codes "edu" ∷ codes "isi" ∷ []) ≡ Err BadAddress
data_1 = refl

data_2 : rdata_of types.A (in_quotes "249.255.95.1" ∷ []) [] ≡ Ok (A (249 ∷ 255 ∷ 95 ∷ 1 ∷ []))
data_2 = refl

data_3 : rdata_of types.A (in_quotes "249.1.9.249" ∷ []) (codes "example" ∷ []) ≡ Ok (A (249 ∷ 1 ∷ 9 ∷ 249 ∷ []))
data_3 = refl

data_4 : rdata_of types.A (token "100.99.100.199" ∷ []) (codes "example" ∷ []) ≡ Ok (A (100 ∷ 99 ∷ 100 ∷ 199 ∷ []))
data_4 = refl

data_5 : rdata_of types.Ns (token "ns1.example." ∷ []) (codes "example" ∷ []) ≡ Ok (Ns (codes "example" ∷ codes "ns1" ∷ []))
data_5 = refl

data_6 : rdata_of types.Ns (token "@" ∷ token "\\#" ∷ []) (codes "edu" ∷ codes "isi" ∷ []) ≡ Err FieldCount
data_6 = refl

data_7 : rdata_of types.Ns (token "@" ∷ []) (codes "example" ∷ []) ≡ Ok (Ns (codes "example" ∷ []))
data_7 = refl

data_8 : rdata_of types.Ns (token "x\\255" ∷ []) (codes "edu" ∷ codes "isi" ∷ []) ≡ Ok (Ns (codes "edu" ∷ codes "isi" ∷ (120 ∷ 255 ∷ []) ∷ []))
data_8 = refl

data_9 : rdata_of types.Ns (token "a..b" ∷ []) [] ≡ Err (BadName EmptyLabel)
data_9 = refl

data_10 : rdata_of types.Cname (token "B.c" ∷ []) (codes "edu" ∷ codes "isi" ∷ []) ≡ Ok (Cname (codes "edu" ∷ codes "isi" ∷ codes "c" ∷ codes "b" ∷ []))
data_10 = refl

data_11 : rdata_of types.Cname [] (codes "edu" ∷ codes "isi" ∷ []) ≡ Err FieldCount
data_11 = refl

data_12 : rdata_of types.Cname (token "." ∷ []) (codes "example" ∷ []) ≡ Ok (Cname [])
data_12 = refl

data_13 : rdata_of types.Cname (token "a\\.b" ∷ []) [] ≡ Ok (Cname (codes "a.b" ∷ []))
data_13 = refl

data_14 : rdata_of types.Cname (token "\\#" ∷ token "x\\255" ∷ []) [] ≡ Err GenericKnown
data_14 = refl

data_15 : rdata_of types.Soa (in_quotes "a" ∷ token "mmmmmmmmmmmmmmmmmmmmmmmmmmmmmmmmmmmmmmmmmmmmmmmmmmmmmmmmmmmmmmmm" ∷ token "0" ∷ token "2147483647" ∷ token "1h" ∷ token "1h" ∷ token "1d2h" ∷ []) (codes "edu" ∷ codes "isi" ∷ []) ≡ Err (BadName LabelTooLong)
data_15 = refl

data_16 : rdata_of types.Soa (token "a..b" ∷ token "a.b.c.d." ∷ token "1235754588" ∷ token "2147483647" ∷ token "2147483648" ∷ token "1h" ∷ token "1h" ∷ []) (codes "edu" ∷ codes "isi" ∷ []) ≡ Err (BadName EmptyLabel)
data_16 = refl

data_17 : rdata_of types.Soa (token "a.b.c.d." ∷ token "B.c" ∷ token "3319609997" ∷ token "2147483647" ∷ token "2147483647" ∷ token "1h" ∷ token "1d2h" ∷ []) [] ≡ Ok (Soa (codes "d" ∷ codes "c" ∷ codes "b" ∷ codes "a" ∷ []) (codes "c" ∷ codes "b" ∷ []) 3319609997 2147483647 2147483647 3600 93600)
data_17 = refl

data_18 : rdata_of types.Soa (token "B.c" ∷ token "a\\.b" ∷ token "7" ∷ token "2147483647" ∷ token "1d2h" ∷ in_quotes "" ∷ token "1h" ∷ []) (codes "edu" ∷ codes "isi" ∷ []) ≡ Err BadNumber
data_18 = refl

data_19 : rdata_of types.Soa (token "a\\.b" ∷ token "\\065" ∷ token "0" ∷ in_quotes "" ∷ token "1d2h" ∷ token "1h" ∷ token "1d2h" ∷ []) (codes "example" ∷ []) ≡ Err BadNumber
data_19 = refl

data_20 : rdata_of types.Ptr (token "." ∷ []) [] ≡ Ok (Ptr [])
data_20 = refl

data_21 : rdata_of types.Hinfo (token "\\\"q\\\"" ∷ token "\\065" ∷ []) [] ≡ Ok (Hinfo (codes "\"q\"") (codes "A"))
data_21 = refl

data_22 : rdata_of types.Mx (token "7" ∷ token "a\\" ∷ []) [] ≡ Err (BadName BadEscape)
data_22 = refl

data_23 : rdata_of types.Txt (token "t.u" ∷ token "\\\"q\\\"" ∷ []) [] ≡ Ok (Txt (codes "t.u" ∷ codes "\"q\"" ∷ []))
data_23 = refl

data_24 : rdata_of types.Aaaa (in_quotes "\\#" ∷ token "00b:e1:2:3982:78d8::143.77.138.22" ∷ []) [] ≡ Err FieldCount
data_24 = refl

data_25 : rdata_of types.Srv (token "65535" ∷ token "65536" ∷ token "7" ∷ in_quotes "" ∷ token "\\#" ∷ []) (codes "edu" ∷ codes "isi" ∷ []) ≡ Err FieldCount
data_25 = refl

data_26 : rdata_of types.Dname (token "." ∷ []) (codes "edu" ∷ codes "isi" ∷ []) ≡ Ok (Dname [])
data_26 = refl

data_27 : rdata_of types.Caa (token "165" ∷ in_quotes "" ∷ token "a" ∷ []) [] ≡ Err BadNumber
data_27 = refl
