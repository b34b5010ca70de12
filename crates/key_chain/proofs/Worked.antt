-- Keys of RFCs with their tags, and which are looked at.
use Rattle.std.proofs.Common.{◌≡◌, ℕ, true, false, List, [], ◌∷◌, codes, Some, None, option_map, refl}
use Rattle.key_chain.specs.Keys.{is_entry_point, is_tried, is_zone_key, key_of, octet_sum, signer_of, wire_of}

-- RFC 4034 section 5.4: the key of dskey.example.com.

rsa_key : List ℕ
rsa_key =
    1 ∷ 0 ∷ 3 ∷ 5 ∷ 1 ∷ 3 ∷ 158 ∷ 138 ∷ 36 ∷ 116 ∷ 24 ∷ 227 ∷ 24 ∷ 144 ∷ 59 ∷ 33 ∷ 90 ∷ 132 ∷ 138 ∷ 207 ∷ 213 ∷ 243 ∷ 127 ∷ 2
    ∷ 107 ∷ 212 ∷ 6 ∷ 45 ∷ 178 ∷ 108 ∷ 119 ∷ 76 ∷ 105 ∷ 9 ∷ 104 ∷ 213 ∷ 213 ∷ 109 ∷ 248 ∷ 191 ∷ 218 ∷ 145 ∷ 230 ∷ 243 ∷ 109 ∷ 154 ∷ 39 ∷ 152
    ∷ 136 ∷ 244 ∷ 19 ∷ 51 ∷ 53 ∷ 124 ∷ 94 ∷ 96 ∷ 41 ∷ 153 ∷ 13 ∷ 16 ∷ 253 ∷ 245 ∷ 102 ∷ 48 ∷ 98 ∷ 165 ∷ 18 ∷ 118 ∷ 51 ∷ 38 ∷ 152 ∷ 10
    ∷ 97 ∷ 93 ∷ 219 ∷ 241 ∷ 122 ∷ 5 ∷ 221 ∷ 252 ∷ 206 ∷ 126 ∷ 95 ∷ 179 ∷ 171 ∷ 204 ∷ 160 ∷ 90 ∷ 49 ∷ 176 ∷ 149 ∷ 116 ∷ 82 ∷ 212 ∷ 82 ∷ 30
    ∷ 131 ∷ 135 ∷ 7 ∷ 137 ∷ 6 ∷ 49 ∷ 21 ∷ 191 ∷ 151 ∷ 246 ∷ 195 ∷ 8 ∷ 204 ∷ 245 ∷ 124 ∷ 220 ∷ 156 ∷ 231 ∷ 254 ∷ 16 ∷ 246 ∷ 237 ∷ 27 ∷ 208
    ∷ 204 ∷ 6 ∷ 96 ∷ 3 ∷ 140 ∷ 80 ∷ 220 ∷ 219 ∷ 15 ∷ 235 ∷ 150 ∷ 60 ∷ 47 ∷ 23 ∷ []

rsa_key_tag : option_map (λ key. key.tag) (key_of rsa_key) ≡ Some 60485
unfolding octet_sum rsa_key
rsa_key_tag = refl

rsa_key_signs : option_map is_zone_key (key_of rsa_key) ≡ Some true
unfolding octet_sum rsa_key
rsa_key_signs = refl

rsa_key_enters : option_map is_entry_point (key_of rsa_key) ≡ Some false
unfolding octet_sum rsa_key
rsa_key_enters = refl

-- RFC 6605 section 6.1: a key of example.net. for ECDSA with P-256

p256_key : List ℕ
p256_key =
    1 ∷ 1 ∷ 3 ∷ 13 ∷ 26 ∷ 136 ∷ 200 ∷ 134 ∷ 21 ∷ 212 ∷ 55 ∷ 251 ∷ 184 ∷ 191 ∷ 158 ∷ 25 ∷ 66 ∷ 161 ∷ 146 ∷ 159 ∷ 40 ∷ 86 ∷ 39 ∷ 6
    ∷ 174 ∷ 108 ∷ 43 ∷ 211 ∷ 153 ∷ 231 ∷ 177 ∷ 191 ∷ 182 ∷ 209 ∷ 233 ∷ 231 ∷ 91 ∷ 146 ∷ 180 ∷ 170 ∷ 66 ∷ 145 ∷ 122 ∷ 225 ∷ 198 ∷ 27 ∷ 112 ∷ 30
    ∷ 240 ∷ 53 ∷ 195 ∷ 254 ∷ 123 ∷ 227 ∷ 0 ∷ 156 ∷ 186 ∷ 254 ∷ 90 ∷ 47 ∷ 113 ∷ 49 ∷ 108 ∷ 144 ∷ 45 ∷ 207 ∷ 13 ∷ 0 ∷ []

p256_key_tag : option_map (λ key. key.tag) (key_of p256_key) ≡ Some 55648
unfolding octet_sum p256_key
p256_key_tag = refl

p256_key_signs : option_map is_zone_key (key_of p256_key) ≡ Some true
unfolding octet_sum p256_key
p256_key_signs = refl

p256_key_enters : option_map is_entry_point (key_of p256_key) ≡ Some true
unfolding octet_sum p256_key
p256_key_enters = refl

-- RFC 6605 section 6.2: the same with P-384

p384_key : List ℕ
p384_key =
    1 ∷ 1 ∷ 3 ∷ 14 ∷ 196 ∷ 166 ∷ 26 ∷ 54 ∷ 21 ∷ 157 ∷ 24 ∷ 231 ∷ 201 ∷ 250 ∷ 115 ∷ 235 ∷ 47 ∷ 207 ∷ 218 ∷ 174 ∷ 76 ∷ 31 ∷ 216 ∷ 70
    ∷ 55 ∷ 48 ∷ 50 ∷ 126 ∷ 72 ∷ 74 ∷ 202 ∷ 138 ∷ 240 ∷ 85 ∷ 74 ∷ 233 ∷ 181 ∷ 195 ∷ 247 ∷ 160 ∷ 177 ∷ 123 ∷ 210 ∷ 0 ∷ 59 ∷ 77 ∷ 38 ∷ 28
    ∷ 158 ∷ 155 ∷ 148 ∷ 66 ∷ 58 ∷ 152 ∷ 16 ∷ 232 ∷ 175 ∷ 23 ∷ 212 ∷ 52 ∷ 82 ∷ 18 ∷ 74 ∷ 219 ∷ 97 ∷ 15 ∷ 142 ∷ 7 ∷ 235 ∷ 252 ∷ 254 ∷ 229
    ∷ 248 ∷ 228 ∷ 208 ∷ 112 ∷ 99 ∷ 202 ∷ 233 ∷ 235 ∷ 145 ∷ 122 ∷ 26 ∷ 91 ∷ 171 ∷ 240 ∷ 143 ∷ 230 ∷ 149 ∷ 83 ∷ 96 ∷ 23 ∷ 165 ∷ 191 ∷ 169 ∷ 50
    ∷ 55 ∷ 238 ∷ 110 ∷ 52 ∷ []

p384_key_tag : option_map (λ key. key.tag) (key_of p384_key) ≡ Some 10771
unfolding octet_sum p384_key
p384_key_tag = refl

p384_key_signs : option_map is_zone_key (key_of p384_key) ≡ Some true
unfolding octet_sum p384_key
p384_key_signs = refl

p384_key_enters : option_map is_entry_point (key_of p384_key) ≡ Some true
unfolding octet_sum p384_key
p384_key_enters = refl

-- A revoked key isn't looked at, nor one of another protocol than 3 (RFC 5011 section 2.1, RFC 4034 section 2.1.2).

revoked : option_map is_zone_key (key_of (1 ∷ 129 ∷ 3 ∷ 8 ∷ 1 ∷ [])) ≡ Some false
revoked = refl

other_protocol : option_map is_zone_key (key_of (1 ∷ 1 ∷ 2 ∷ 8 ∷ 1 ∷ [])) ≡ Some false
other_protocol = refl

no_key : key_of (1 ∷ 1 ∷ 3 ∷ 8 ∷ []) ≡ None
no_key = refl

-- A digest of SHA-1 has 20 octets, one of an unknown type some.

short_digest : signer_of (236 ∷ 69 ∷ 5 ∷ 1 ∷ 43 ∷ 177 ∷ []) ≡ None
short_digest = refl

no_digest : signer_of (236 ∷ 69 ∷ 5 ∷ 9 ∷ []) ≡ None
no_digest = refl

unknown_type : option_map (is_tried false) (signer_of (236 ∷ 69 ∷ 5 ∷ 9 ∷ 1 ∷ [])) ≡ Some false
unknown_type = refl

-- The octets of a name.

wire : wire_of (codes "com" ∷ codes "example" ∷ []) ≡ 7 ∷ 101 ∷ 120 ∷ 97 ∷ 109 ∷ 112 ∷ 108 ∷ 101 ∷ 3 ∷ 99 ∷ 111 ∷ 109 ∷ 0 ∷ []
wire = refl
