-- The addresses that texts stand for.
use Rattle.std.specs.Prelude.{◌≡◌, refl, [], ◌∷◌, codes, Some, None}
use Rattle.rdata_forms.specs.Addresses.{ipv4_of, ipv6_of}

-- IPv4: four numbers with dots between
zeros : ipv4_of (codes "0.0.0.0") ≡ Some (0 ∷ 0 ∷ 0 ∷ 0 ∷ [])
zeros = refl

broadcast : ipv4_of (codes "255.255.255.255") ≡ Some (255 ∷ 255 ∷ 255 ∷ 255 ∷ [])
broadcast = refl

-- what is none
an_octet_over : ipv4_of (codes "10.0.0.256") ≡ None
an_octet_over = refl

four_digits : ipv4_of (codes "1000.0.0.0") ≡ None
four_digits = refl

a_leading_zero : ipv4_of (codes "10.0.0.01") ≡ None
a_leading_zero = refl

two_zeros : ipv4_of (codes "00.0.0.0") ≡ None
two_zeros = refl

three_numbers : ipv4_of (codes "10.0.1") ≡ None
three_numbers = refl

five_numbers : ipv4_of (codes "10.0.0.0.1") ≡ None
five_numbers = refl

a_dot_behind : ipv4_of (codes "10.0.0.1.") ≡ None
a_dot_behind = refl

a_dot_before : ipv4_of (codes ".10.0.1") ≡ None
a_dot_before = refl

two_dots : ipv4_of (codes "10..0.1") ≡ None
two_dots = refl

no_octet : ipv4_of (codes "") ≡ None
no_octet = refl

hexadecimal : ipv4_of (codes "10.0.0.a") ≡ None
hexadecimal = refl

a_space : ipv4_of (codes "10.0.0.1 ") ≡ None
a_space = refl

-- IPv6: `::` may stand for one group, at the end too, and zeros may stand before a group's digits
one_group_at_the_end :
    ipv6_of (codes "1:2:3:4:5:6:7::") ≡ Some (0 ∷ 1 ∷ 0 ∷ 2 ∷ 0 ∷ 3 ∷ 0 ∷ 4 ∷ 0 ∷ 5 ∷ 0 ∷ 6 ∷ 0 ∷ 7 ∷ 0 ∷ 0 ∷ [])
one_group_at_the_end = refl

one_group_in_front :
    ipv6_of (codes "::2:3:4:5:6:7:8") ≡ Some (0 ∷ 0 ∷ 0 ∷ 2 ∷ 0 ∷ 3 ∷ 0 ∷ 4 ∷ 0 ∷ 5 ∷ 0 ∷ 6 ∷ 0 ∷ 7 ∷ 0 ∷ 8 ∷ [])
one_group_in_front = refl

leading_zeros :
    ipv6_of (codes "0001:02:003:4::aBcD") ≡ Some (0 ∷ 1 ∷ 0 ∷ 2 ∷ 0 ∷ 3 ∷ 0 ∷ 4 ∷ 0 ∷ 0 ∷ 0 ∷ 0 ∷ 0 ∷ 0 ∷ 171 ∷ 205 ∷ [])
leading_zeros = refl

five_groups_before_an_ipv4_address :
    ipv6_of (codes "::2:3:4:5:6:1.2.3.4") ≡ Some (0 ∷ 0 ∷ 0 ∷ 2 ∷ 0 ∷ 3 ∷ 0 ∷ 4 ∷ 0 ∷ 5 ∷ 0 ∷ 6 ∷ 1 ∷ 2 ∷ 3 ∷ 4 ∷ [])
five_groups_before_an_ipv4_address = refl

-- what is none
no_group_left_in_the_middle : ipv6_of (codes "1:2:3:4:5:6:7::8") ≡ None
no_group_left_in_the_middle = refl

no_group_left_at_the_end : ipv6_of (codes "1:2:3:4:5:6:7:8::") ≡ None
no_group_left_at_the_end = refl

no_group_left_before_an_ipv4_address : ipv6_of (codes "1:2:3:4:5::6:1.2.3.4") ≡ None
no_group_left_before_an_ipv4_address = refl

twice_shortened : ipv6_of (codes "1::2::3") ≡ None
twice_shortened = refl

three_colons : ipv6_of (codes "1:::2") ≡ None
three_colons = refl

three_colons_alone : ipv6_of (codes ":::") ≡ None
three_colons_alone = refl

seven_groups : ipv6_of (codes "1:2:3:4:5:6:7") ≡ None
seven_groups = refl

nine_groups : ipv6_of (codes "1:2:3:4:5:6:7:8:9") ≡ None
nine_groups = refl

five_digits : ipv6_of (codes "::12345") ≡ None
five_digits = refl

another_letter : ipv6_of (codes "::g") ≡ None
another_letter = refl

a_colon_behind : ipv6_of (codes "1::2:") ≡ None
a_colon_behind = refl

a_colon_before : ipv6_of (codes ":1::2") ≡ None
a_colon_before = refl

a_colon_behind_eight_groups : ipv6_of (codes "1:2:3:4:5:6:7:8:") ≡ None
a_colon_behind_eight_groups = refl

an_ipv4_address_in_front : ipv6_of (codes "1.2.3.4::") ≡ None
an_ipv4_address_in_front = refl

an_ipv4_address_in_the_middle : ipv6_of (codes "::1.2.3.4:5") ≡ None
an_ipv4_address_in_the_middle = refl

five_groups_and_an_ipv4_address : ipv6_of (codes "1:2:3:4:5:1.2.3.4") ≡ None
five_groups_and_an_ipv4_address = refl

seven_groups_and_an_ipv4_address : ipv6_of (codes "1:2:3:4:5:6:7:1.2.3.4") ≡ None
seven_groups_and_an_ipv4_address = refl

a_leading_zero_in_an_ipv4_address : ipv6_of (codes "::1.2.3.04") ≡ None
a_leading_zero_in_an_ipv4_address = refl

an_ipv4_text : ipv6_of (codes "10.0.0.1") ≡ None
an_ipv4_text = refl

no_colon : ipv6_of (codes "1") ≡ None
no_colon = refl

one_colon : ipv6_of (codes ":") ≡ None
one_colon = refl

nothing : ipv6_of (codes "") ≡ None
nothing = refl

a_zone : ipv6_of (codes "fe80::1%1") ≡ None
a_zone = refl
