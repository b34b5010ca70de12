-- Texts of addresses drawn at random.
-- docs/draw.py works them out once more, by plain rules; docs/draw.py ipv4_of draws others.
use Rattle.std.specs.Prelude.{◌≡◌, refl, [], ◌∷◌, codes, Some, None}
use Rattle.rdata_forms.specs.Addresses.{ipv4_of, ipv6_of}

address_0 : ipv4_of (codes "190.01.200.249") ≡ None
address_0 = refl

address_1 : ipv4_of (codes "255.87.249.10") ≡ Some (255 ∷ 87 ∷ 249 ∷ 10 ∷ [])
address_1 = refl

address_2 : ipv4_of (codes "200.9.249.10") ≡ Some (200 ∷ 9 ∷ 249 ∷ 10 ∷ [])
address_2 = refl

address_3 : ipv4_of (codes "10.007.207.0") ≡ None
address_3 = refl

address_4 : ipv4_of (codes "10.104.100.100") ≡ Some (10 ∷ 104 ∷ 100 ∷ 100 ∷ [])
address_4 = refl

address_5 : ipv4_of (codes "9.0.255.100") ≡ Some (9 ∷ 0 ∷ 255 ∷ 100 ∷ [])
address_5 = refl

address_6 : ipv4_of (codes "9.300.200.255") ≡ None
address_6 = refl

address_7 : ipv4_of (codes "10.10.199.255") ≡ Some (10 ∷ 10 ∷ 199 ∷ 255 ∷ [])
address_7 = refl

address_8 : ipv4_of (codes "200.1.200.00") ≡ None
address_8 = refl

address_9 : ipv4_of (codes "255.0.-1.249") ≡ None
address_9 = refl

address_10 : ipv4_of (codes "1.199.0.249") ≡ Some (1 ∷ 199 ∷ 0 ∷ 249 ∷ [])
address_10 = refl

address_11 : ipv4_of (codes "55.104.256.199") ≡ None
address_11 = refl

address_12 : ipv4_of (codes "255.0.007.99") ≡ None
address_12 = refl

address_13 : ipv4_of (codes "199.00.1.1") ≡ None
address_13 = refl

address_14 : ipv4_of (codes "100.0.249.249") ≡ Some (100 ∷ 0 ∷ 249 ∷ 249 ∷ [])
address_14 = refl

address_15 : ipv4_of (codes "-1.255.0.0") ≡ None
address_15 = refl

address_16 : ipv4_of (codes "1.249.78.200") ≡ Some (1 ∷ 249 ∷ 78 ∷ 200 ∷ [])
address_16 = refl

address_17 : ipv4_of (codes "007.199.249.200") ≡ None
address_17 = refl

address_18 : ipv6_of (codes "04:1:0:1:f:51:1:31") ≡ Some (0 ∷ 4 ∷ 0 ∷ 1 ∷ 0 ∷ 0 ∷ 0 ∷ 1 ∷ 0 ∷ 15 ∷ 0 ∷ 81 ∷ 0 ∷ 1 ∷ 0 ∷ 49 ∷ [])
address_18 = refl

address_19 : ipv6_of (codes "3868:7455:03:0d0:01:0:1:0::") ≡ None
address_19 = refl

address_20 : ipv6_of (codes "1C6D::E:8a40:0:A:1E:6:1") ≡ None
address_20 = refl
