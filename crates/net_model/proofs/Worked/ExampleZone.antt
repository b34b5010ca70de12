-- The zone of RFC 4592 section 2.2.1. The data that it leaves open are chosen here.
use Rattle.std.specs.Prelude.{[], ◌∷◌, codes}
use Rattle.dns_data.specs.Name.{Labels}
use Rattle.dns_data.specs.declared.rdata.Rdata.TheVariants.{A, Ns, Soa, Mx, Txt, Srv}
use Rattle.net_model.specs.declared.config.Zone.{Zone}
use Rattle.net_model.proofs.Words.{rr, zone_at}

-- example.
abbrev pub example : Labels
example = codes "example" ∷ []

-- *.example.
abbrev pub wildcard : Labels
wildcard = codes "example" ∷ codes "*" ∷ []

-- sub.*.example.
abbrev pub below_wildcard : Labels
below_wildcard = codes "example" ∷ codes "*" ∷ codes "sub" ∷ []

-- host1.example.
abbrev pub host1 : Labels
host1 = codes "example" ∷ codes "host1" ∷ []

-- host2.example.
abbrev pub host2 : Labels
host2 = codes "example" ∷ codes "host2" ∷ []

-- subdel.example.
abbrev pub delegated_name : Labels
delegated_name = codes "example" ∷ codes "subdel" ∷ []

-- ns.example.com.
abbrev pub ns_com : Labels
ns_com = codes "com" ∷ codes "example" ∷ codes "ns" ∷ []

-- ns.example.net.
abbrev pub ns_net : Labels
ns_net = codes "net" ∷ codes "example" ∷ codes "ns" ∷ []

-- the zone of RFC 4592 section 2.2.1
abbrev pub example_zone : Zone
example_zone =
    zone_at example
    (rr example (Soa ns_com host1 1 2 3 4 5)
    ∷ rr example (Ns ns_com)
    ∷ rr example (Ns ns_net)
    ∷ rr wildcard (Txt (codes "this is a wildcard" ∷ []))
    ∷ rr wildcard (Mx 10 host1)
    ∷ rr below_wildcard (Txt (codes "this is not a wildcard" ∷ []))
    ∷ rr host1 (A (192 ∷ 0 ∷ 2 ∷ 1 ∷ []))
    ∷ rr (codes "example" ∷ codes "host1" ∷ codes "_tcp" ∷ codes "_ssh" ∷ []) (Srv 0 0 22 host1)
    ∷ rr (codes "example" ∷ codes "host2" ∷ codes "_tcp" ∷ codes "_ssh" ∷ []) (Srv 0 0 22 host2)
    ∷ rr delegated_name (Ns ns_com)
    ∷ rr delegated_name (Ns ns_net)
    ∷ [])
