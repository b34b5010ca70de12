-- Texts that the standards print, and what they stand for.
use Rattle.std.proofs.Common.{◌≡◌, [], ◌∷◌, codes, Some, refl}
use Rattle.rdata_forms.specs.Addresses.{ipv4_of, ipv6_of}
use Rattle.rdata_forms.specs.Times.{time_of}

-- RFC 4291 section 2.2: all groups, a unicast address, a multicast address, the loopback and the unspecified one
all_groups : ipv6_of (codes "ABCD:EF01:2345:6789:ABCD:EF01:2345:6789") ≡ Some (171 ∷ 205 ∷ 239 ∷ 1 ∷ 35 ∷ 69 ∷ 103 ∷ 137 ∷ 171 ∷ 205 ∷ 239 ∷ 1 ∷ 35 ∷ 69 ∷ 103 ∷ 137 ∷ [])
all_groups = refl

unicast : ipv6_of (codes "2001:DB8::8:800:200C:417A") ≡ Some (32 ∷ 1 ∷ 13 ∷ 184 ∷ 0 ∷ 0 ∷ 0 ∷ 0 ∷ 0 ∷ 8 ∷ 8 ∷ 0 ∷ 32 ∷ 12 ∷ 65 ∷ 122 ∷ [])
unicast = refl

unicast_whole : ipv6_of (codes "2001:DB8:0:0:8:800:200C:417A") ≡ ipv6_of (codes "2001:DB8::8:800:200C:417A")
unicast_whole = refl

multicast : ipv6_of (codes "FF01::101") ≡ Some (255 ∷ 1 ∷ 0 ∷ 0 ∷ 0 ∷ 0 ∷ 0 ∷ 0 ∷ 0 ∷ 0 ∷ 0 ∷ 0 ∷ 0 ∷ 0 ∷ 1 ∷ 1 ∷ [])
multicast = refl

loopback : ipv6_of (codes "::1") ≡ Some (0 ∷ 0 ∷ 0 ∷ 0 ∷ 0 ∷ 0 ∷ 0 ∷ 0 ∷ 0 ∷ 0 ∷ 0 ∷ 0 ∷ 0 ∷ 0 ∷ 0 ∷ 1 ∷ [])
loopback = refl

unspecified : ipv6_of (codes "::") ≡ Some (0 ∷ 0 ∷ 0 ∷ 0 ∷ 0 ∷ 0 ∷ 0 ∷ 0 ∷ 0 ∷ 0 ∷ 0 ∷ 0 ∷ 0 ∷ 0 ∷ 0 ∷ 0 ∷ [])
unspecified = refl

-- with the IPv4 form of the last two groups
mixed : ipv6_of (codes "::13.1.68.3") ≡ Some (0 ∷ 0 ∷ 0 ∷ 0 ∷ 0 ∷ 0 ∷ 0 ∷ 0 ∷ 0 ∷ 0 ∷ 0 ∷ 0 ∷ 13 ∷ 1 ∷ 68 ∷ 3 ∷ [])
mixed = refl

mixed_whole : ipv6_of (codes "0:0:0:0:0:0:13.1.68.3") ≡ ipv6_of (codes "::13.1.68.3")
mixed_whole = refl

mapped : ipv6_of (codes "::FFFF:129.144.52.38") ≡ Some (0 ∷ 0 ∷ 0 ∷ 0 ∷ 0 ∷ 0 ∷ 0 ∷ 0 ∷ 0 ∷ 0 ∷ 255 ∷ 255 ∷ 129 ∷ 144 ∷ 52 ∷ 38 ∷ [])
mapped = refl

mapped_whole : ipv6_of (codes "0:0:0:0:0:FFFF:129.144.52.38") ≡ ipv6_of (codes "::FFFF:129.144.52.38")
mapped_whole = refl

-- RFC 1035 section 5.3: a host of the example
of_a_host : ipv4_of (codes "26.3.0.103") ≡ Some (26 ∷ 3 ∷ 0 ∷ 103 ∷ [])
of_a_host = refl

-- RFC 2181 section 8: the greatest TTL
greatest : time_of (codes "2147483647") ≡ Some 2147483647
greatest = refl
