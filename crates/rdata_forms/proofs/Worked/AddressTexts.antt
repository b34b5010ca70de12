-- Texts of addresses, by the relation that says what a text stands for.
use Rattle.std.specs.Prelude.{refl, [], ◌∷◌, codes}
use Rattle.std.specs.Fmt.{digits}
use Rattle.std.proofs.Common.{arith, inl, inr}
use Rattle.rdata_forms.specs.AddressTexts.{IsIpv4Text, IsIpv6Text, Group, Dotted}

-- the text of an IPv4 address (RFC 1035 section 5.3)
isi_edu : IsIpv4Text (codes "26.3.0.103") (26 ∷ 3 ∷ 0 ∷ 103 ∷ [])
unfolding digits
isi_edu = record { four = refl; octets = refl; written = refl }

-- the texts of RFC 4291 section 2.2: all groups written
unicast_whole :
    IsIpv6Text (codes "2001:DB8:0:0:8:800:200C:417A")
    (32 ∷ 1 ∷ 13 ∷ 184 ∷ 0 ∷ 0 ∷ 0 ∷ 0 ∷ 0 ∷ 8 ∷ 8 ∷ 0 ∷ 32 ∷ 12 ∷ 65 ∷ 122 ∷ [])
unicast_whole = inl (record {
  pieces = Group (codes "2001") ∷ Group (codes "DB8") ∷ Group (codes "0") ∷ Group (codes "0") ∷ Group (codes "8")
      ∷ Group (codes "800") ∷ Group (codes "200C") ∷ Group (codes "417A") ∷ [];
  well_formed = (refl, (refl, (refl, (refl, (refl, (refl, (refl, refl)))))));
  written = refl;
  sixteen = refl;
  stands_for = refl;
})

-- zeros left out
unicast :
    IsIpv6Text (codes "2001:DB8::8:800:200C:417A")
    (32 ∷ 1 ∷ 13 ∷ 184 ∷ 0 ∷ 0 ∷ 0 ∷ 0 ∷ 0 ∷ 8 ∷ 8 ∷ 0 ∷ 32 ∷ 12 ∷ 65 ∷ 122 ∷ [])
unicast = inr (record {
  front = Group (codes "2001") ∷ Group (codes "DB8") ∷ [];
  back = Group (codes "8") ∷ Group (codes "800") ∷ Group (codes "200C") ∷ Group (codes "417A") ∷ [];
  front_well_formed = (refl, refl);
  back_well_formed = (refl, (refl, (refl, refl)));
  written = refl;
  room = omega arith;
  stands_for = refl;
})

-- nothing but zeros
unspecified : IsIpv6Text (codes "::") (0 ∷ 0 ∷ 0 ∷ 0 ∷ 0 ∷ 0 ∷ 0 ∷ 0 ∷ 0 ∷ 0 ∷ 0 ∷ 0 ∷ 0 ∷ 0 ∷ 0 ∷ 0 ∷ [])
unspecified = inr (record {
  front = [];
  back = [];
  front_well_formed = tt;
  back_well_formed = tt;
  written = refl;
  room = omega arith;
  stands_for = refl;
})

-- an IPv4 address behind zeros and a group
mapped :
    IsIpv6Text (codes "::FFFF:129.144.52.38")
    (0 ∷ 0 ∷ 0 ∷ 0 ∷ 0 ∷ 0 ∷ 0 ∷ 0 ∷ 0 ∷ 0 ∷ 255 ∷ 255 ∷ 129 ∷ 144 ∷ 52 ∷ 38 ∷ [])
unfolding digits
mapped = inr (record {
  front = [];
  back = Group (codes "FFFF") ∷ Dotted (129 ∷ 144 ∷ 52 ∷ 38 ∷ []) ∷ [];
  front_well_formed = tt;
  back_well_formed = (refl, (refl, refl, refl));
  written = refl;
  room = omega arith;
  stands_for = refl;
})
