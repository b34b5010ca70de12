-- Data and words of types that the RFCs print.
use Rattle.std.proofs.Common.{◌≡◌, [], ◌∷◌, Some, None, codes, refl}
use Rattle.std.specs.Fmt.{digits}
use Rattle.dns_data.specs.DataText.{data_text}
use Rattle.dns_data.specs.RrType.{type_of_word}
use Rattle.dns_data.specs.declared.rdata.Rdata.TheVariants.{A, Soa, Mx, Aaaa, Srv, Caa}
use Rattle.dns_data.specs.declared.rr_type.RrType.TheVariants as types

-- RFC 1035 section 5.3: the start of authority, a mail exchange and an address of ISI.EDU
isi_edu_start : data_text (Soa (codes "edu" ∷ codes "isi" ∷ codes "venera" ∷ []) (codes "edu" ∷ codes "isi" ∷ codes "action.domains" ∷ []) 20 7200 600 3600000 60) ≡ codes "venera.isi.edu. action\\.domains.isi.edu. 20 7200 600 3600000 60"
unfolding digits
isi_edu_start = refl

isi_edu_mail : data_text (Mx 10 (codes "edu" ∷ codes "isi" ∷ codes "venera" ∷ [])) ≡ codes "10 venera.isi.edu."
unfolding digits
isi_edu_mail = refl

isi_edu_address : data_text (A (26 ∷ 3 ∷ 0 ∷ 103 ∷ [])) ≡ codes "26.3.0.103"
unfolding digits
isi_edu_address = refl

-- RFC 4291 section 2.2: a unicast address, a multicast one and the loopback address, here in lower case
unicast : data_text (Aaaa (32 ∷ 1 ∷ 13 ∷ 184 ∷ 0 ∷ 0 ∷ 0 ∷ 0 ∷ 0 ∷ 8 ∷ 8 ∷ 0 ∷ 32 ∷ 12 ∷ 65 ∷ 122 ∷ [])) ≡ codes "2001:db8:0:0:8:800:200c:417a"
unfolding digits
unicast = refl

multicast : data_text (Aaaa (255 ∷ 1 ∷ 0 ∷ 0 ∷ 0 ∷ 0 ∷ 0 ∷ 0 ∷ 0 ∷ 0 ∷ 0 ∷ 0 ∷ 0 ∷ 0 ∷ 1 ∷ 1 ∷ [])) ≡ codes "ff01:0:0:0:0:0:0:101"
unfolding digits
multicast = refl

loopback : data_text (Aaaa (0 ∷ 0 ∷ 0 ∷ 0 ∷ 0 ∷ 0 ∷ 0 ∷ 0 ∷ 0 ∷ 0 ∷ 0 ∷ 0 ∷ 0 ∷ 0 ∷ 0 ∷ 1 ∷ [])) ≡ codes "0:0:0:0:0:0:0:1"
unfolding digits
loopback = refl

-- RFC 2782: a service at a host
service : data_text (Srv 0 1 9 (codes "com" ∷ codes "example" ∷ codes "old-slow-box" ∷ [])) ≡ codes "0 1 9 old-slow-box.example.com."
unfolding digits
service = refl

-- RFC 8659 section 4.2: no authority may issue certificates
no_authority : data_text (Caa 0 (codes "issue") (codes ";")) ≡ codes "0 issue \";\""
unfolding digits
no_authority = refl

-- RFC 4343 section 3: case says nothing
any_case : type_of_word (codes "cName") ≡ Some types.Cname
any_case = refl

-- RFC 1035 section 3.2.3: a word of questions alone
no_type : type_of_word (codes "ANY") ≡ None
no_type = refl
