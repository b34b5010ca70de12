-- The queries of RFC 1034 section 6.2 that speak of one type, in the root zone of section 6.1.
use Rattle.std.specs.Prelude.{◌≡◌, refl, [], ◌∷◌, codes, false}
use Rattle.std.specs.Fmt.{digits}
use Rattle.dns_data.specs.Name.{Labels}
use Rattle.dns_data.specs.declared.rdata.Rdata.TheVariants.{A, Ns, Cname, Soa, Ptr, Hinfo, Mx}
use Rattle.dns_data.specs.declared.rr_type.RrType.TheVariants as types
use Rattle.net_model.specs.declared.config.Zone.{Zone}
use Rattle.net_model.specs.declared.found.Found.TheVariants.{Referral, Rewrite, Answer, NoData, NxDomain}
use Rattle.net_model.specs.Lookup.{found}
use Rattle.net_model.proofs.Words.{rr, zone_at}

abbrev sri_nic : Labels
sri_nic = codes "arpa" ∷ codes "sri-nic" ∷ []

abbrev acc : Labels
acc = codes "arpa" ∷ codes "acc" ∷ []

abbrev usc_isic : Labels
usc_isic = codes "arpa" ∷ codes "usc-isic" ∷ []

abbrev a_isi : Labels
a_isi = codes "edu" ∷ codes "isi" ∷ codes "a" ∷ []

abbrev c_isi : Labels
c_isi = codes "edu" ∷ codes "isi" ∷ codes "c" ∷ []

abbrev mil : Labels
mil = codes "mil" ∷ []

abbrev edu : Labels
edu = codes "edu" ∷ []

abbrev root_zone : Zone
root_zone =
    zone_at []
    (rr [] (Soa sri_nic (codes "arpa" ∷ codes "sri-nic" ∷ codes "hostmaster" ∷ []) 870611 1800 300 604800 86400)
    ∷ rr [] (Ns a_isi)
    ∷ rr [] (Ns c_isi)
    ∷ rr [] (Ns sri_nic)
    ∷ rr mil (Ns sri_nic)
    ∷ rr mil (Ns a_isi)
    ∷ rr edu (Ns sri_nic)
    ∷ rr edu (Ns c_isi)
    ∷ rr sri_nic (A (26 ∷ 0 ∷ 0 ∷ 73 ∷ []))
    ∷ rr sri_nic (A (10 ∷ 0 ∷ 0 ∷ 51 ∷ []))
    ∷ rr sri_nic (Mx 0 sri_nic)
    ∷ rr sri_nic (Hinfo (codes "DEC-2060") (codes "TOPS20"))
    ∷ rr acc (A (26 ∷ 6 ∷ 0 ∷ 65 ∷ []))
    ∷ rr acc (Hinfo (codes "PDP-11/70") (codes "UNIX"))
    ∷ rr acc (Mx 10 acc)
    ∷ rr usc_isic (Cname c_isi)
    ∷ rr (codes "arpa" ∷ codes "in-addr" ∷ codes "26" ∷ codes "0" ∷ codes "0" ∷ codes "73" ∷ []) (Ptr sri_nic)
    ∷ rr a_isi (A (26 ∷ 3 ∷ 0 ∷ 103 ∷ []))
    ∷ rr c_isi (A (10 ∷ 0 ∷ 0 ∷ 52 ∷ []))
    ∷ [])

-- section 6.2.1: both addresses, here in the order of their texts
addresses_of_sri_nic : found root_zone sri_nic types.A ≡ Answer (A (10 ∷ 0 ∷ 0 ∷ 51 ∷ []) ∷ A (26 ∷ 0 ∷ 0 ∷ 73 ∷ []) ∷ [])
unfolding digits
addresses_of_sri_nic = refl

-- section 6.2.3
mail_exchange_of_sri_nic : found root_zone sri_nic types.Mx ≡ Answer (Mx 0 sri_nic ∷ [])
mail_exchange_of_sri_nic = refl

-- section 6.2.4: the name exists and has no NS record
sri_nic_has_no_name_server : found root_zone sri_nic types.Ns ≡ NoData
sri_nic_has_no_name_server = refl

-- section 6.2.5: no such name
sir_nic_does_not_exist : found root_zone (codes "arpa" ∷ codes "sir-nic" ∷ []) types.A ≡ NxDomain
sir_nic_does_not_exist = refl

-- section 6.2.6: a referral to the name servers of mil.
brl_mil_is_referred : found root_zone (codes "mil" ∷ codes "brl" ∷ []) types.A ≡ Referral mil (sri_nic ∷ a_isi ∷ [])
brl_mil_is_referred = refl

-- section 6.2.7: the alias is followed
usc_isic_is_rewritten : found root_zone usc_isic types.A ≡ Rewrite false usc_isic c_isi
usc_isic_is_rewritten = refl

-- section 6.2.8: type CNAME asks for the alias itself
usc_isic_answers_its_alias : found root_zone usc_isic types.Cname ≡ Answer (Cname c_isi ∷ [])
usc_isic_answers_its_alias = refl

-- the address of c.isi.edu. is no answer of this zone: it stands below a zone cut
glue_is_no_answer : found root_zone c_isi types.A ≡ Referral edu (sri_nic ∷ c_isi ∷ [])
glue_is_no_answer = refl
