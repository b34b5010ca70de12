-- Data of each type. The examples are those of the RFCs where they print one.
use Rattle.std.specs.Prelude.{◌≡◌, refl, [], ◌∷◌, codes, Ok}
use Rattle.dns_data.specs.declared.rdata.Rdata.TheVariants.{A, Ns, Cname, Soa, Ptr, Hinfo, Mx, Txt, Aaaa, Srv, Dname, Caa}
use Rattle.dns_data.specs.declared.rr_type.RrType.TheVariants as types
use Rattle.rdata_forms.specs.Forms.{rdata_of}
use Rattle.rdata_forms.proofs.Worked.Words.{in_quotes, name, token, tokens}

-- RFC 1035 section 5.3: an address, a name server below the origin, an alias to it
an_address : rdata_of types.A (tokens "26.3.0.103") [] ≡ Ok (A (26 ∷ 3 ∷ 0 ∷ 103 ∷ []))
an_address = refl

a_server : rdata_of types.Ns (tokens "A.ISI.EDU.") (name "org") ≡ Ok (Ns (name "a.isi.edu"))
a_server = refl

an_alias : rdata_of types.Cname (tokens "VENERA") (name "isi.edu") ≡ Ok (Cname (name "venera.isi.edu"))
an_alias = refl

-- the start of authority of ISI.EDU
a_start :
    rdata_of types.Soa (tokens "VENERA Action\\.domains 20 7200 600 3600000 60") (name "isi.edu")
    ≡ Ok (Soa (name "venera.isi.edu") (codes "edu" ∷ codes "isi" ∷ codes "action.domains" ∷ []) 20 7200 600 3600000 60)
a_start = refl

-- the times of a start of authority may have units, the serial number has none
units : rdata_of types.Soa (tokens ". . 4294967295 3h 15m 1w 1h30M") [] ≡ Ok (Soa [] [] 4294967295 10800 900 604800 5400)
units = refl

-- RFC 1035 section 3.5: a host of ISI by its address
a_pointer : rdata_of types.Ptr (tokens "A.ISI.EDU.") [] ≡ Ok (Ptr (name "a.isi.edu"))
a_pointer = refl

-- a processor and an operating system (RFC 1035 section 3.3.2)
a_host : rdata_of types.Hinfo (in_quotes "DEC-2060" ∷ token "TOPS20" ∷ []) [] ≡ Ok (Hinfo (codes "DEC-2060") (codes "TOPS20"))
a_host = refl

a_mail_exchange : rdata_of types.Mx (tokens "10 VENERA") (name "isi.edu") ≡ Ok (Mx 10 (name "venera.isi.edu"))
a_mail_exchange = refl

-- two texts, and one that is empty
texts : rdata_of types.Txt (in_quotes "v=x; y" ∷ token "Two" ∷ []) [] ≡ Ok (Txt (codes "v=x; y" ∷ codes "Two" ∷ []))
texts = refl

an_empty_text : rdata_of types.Txt (in_quotes "" ∷ []) [] ≡ Ok (Txt ([] ∷ []))
an_empty_text = refl

-- RFC 3596 section 2.5 and RFC 4291 section 2.2
an_ipv6_address :
    rdata_of types.Aaaa (tokens "2001:db8::8:800:200c:417a") []
    ≡ Ok (Aaaa (32 ∷ 1 ∷ 13 ∷ 184 ∷ 0 ∷ 0 ∷ 0 ∷ 0 ∷ 0 ∷ 8 ∷ 8 ∷ 0 ∷ 32 ∷ 12 ∷ 65 ∷ 122 ∷ []))
an_ipv6_address = refl

-- RFC 2782: a service at a host, and a service that isn't there
a_service :
    rdata_of types.Srv (tokens "0 1 9 old-slow-box.example.com.") [] ≡ Ok (Srv 0 1 9 (name "old-slow-box.example.com"))
a_service = refl

no_service : rdata_of types.Srv (tokens "0 0 0 .") (name "example") ≡ Ok (Srv 0 0 0 [])
no_service = refl

-- RFC 6672 section 2.2: a subtree that is redirected
a_redirection : rdata_of types.Dname (tokens "frobozz-division.acme.example.") [] ≡ Ok (Dname (name "frobozz-division.acme.example"))
a_redirection = refl

-- RFC 8659 section 4.2: one authority with a parameter, and none
an_authority :
    rdata_of types.Caa (token "0" ∷ token "issue" ∷ in_quotes "ca1.example.net; account=230123" ∷ []) []
    ≡ Ok (Caa 0 (codes "issue") (codes "ca1.example.net; account=230123"))
an_authority = refl

no_authority : rdata_of types.Caa (token "0" ∷ token "ISSUE" ∷ in_quotes ";" ∷ []) [] ≡ Ok (Caa 0 (codes "issue") (codes ";"))
no_authority = refl

-- RFC 8659 section 4.1.1: a flag that says that the tag must be understood
critical : rdata_of types.Caa (token "128" ∷ token "tbs" ∷ in_quotes "Unknown" ∷ []) [] ≡ Ok (Caa 128 (codes "tbs") (codes "Unknown"))
critical = refl

-- names, numbers, times and addresses may stand in quotes
a_quoted_name : rdata_of types.Ns (in_quotes "ns" ∷ []) (name "example") ≡ Ok (Ns (name "ns.example"))
a_quoted_name = refl

a_quoted_origin : rdata_of types.Ns (in_quotes "@" ∷ []) (name "example") ≡ Ok (Ns (name "example"))
a_quoted_origin = refl

a_quoted_address : rdata_of types.A (in_quotes "10.0.0.1" ∷ []) [] ≡ Ok (A (10 ∷ 0 ∷ 0 ∷ 1 ∷ []))
a_quoted_address = refl

a_quoted_number : rdata_of types.Mx (in_quotes "65535" ∷ token "mail." ∷ []) [] ≡ Ok (Mx 65535 (name "mail"))
a_quoted_number = refl

-- a quoted `\#` is a text as any other
a_quoted_mark : rdata_of types.Txt (in_quotes "\\#" ∷ []) [] ≡ Ok (Txt (codes "#" ∷ []))
a_quoted_mark = refl

-- behind another token the mark begins nothing
a_mark_behind : rdata_of types.Txt (tokens "a \\#") [] ≡ Ok (Txt (codes "a" ∷ codes "#" ∷ []))
a_mark_behind = refl
