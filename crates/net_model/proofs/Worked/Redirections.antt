-- DNAME records: the table of RFC 6672 section 2.2, the owner itself, and names that grow too long.
use Rattle.std.specs.Prelude.{◌≡◌, refl, [], ◌∷◌, codes, replicate, true}
use Rattle.dns_data.specs.Name.{Labels, wire_octets}
use Rattle.dns_data.specs.declared.rdata.Rdata.TheVariants.{Dname}
use Rattle.dns_data.specs.declared.rr_type.RrType.TheVariants as types
use Rattle.net_model.specs.declared.config.Zone.{Zone}
use Rattle.net_model.specs.declared.found.Found.TheVariants.{Rewrite, TooLong, Answer, NoData, NxDomain}
use Rattle.net_model.specs.Lookup.{found}
use Rattle.net_model.proofs.Words.{rr, zone_at}

abbrev top : Labels
top = codes "com" ∷ []

abbrev example_com : Labels
example_com = codes "com" ∷ codes "example" ∷ []

abbrev example_net : Labels
example_net = codes "net" ∷ codes "example" ∷ []

-- the root zone with one DNAME record
abbrev with_dname : Labels → Labels → Zone
with_dname owner target = zone_at [] (rr owner (Dname target) ∷ [])

-- com. isn't redirected
above_the_owner : found (with_dname example_com example_net) top types.A ≡ NoData
above_the_owner = refl

-- example.com. isn't redirected: the owner of a DNAME record keeps its own data
the_owner_is_not_redirected : found (with_dname example_com example_net) example_com types.A ≡ NoData
the_owner_is_not_redirected = refl

-- and answers to type DNAME
the_owner_answers_its_record :
    found (with_dname example_com example_net) example_com types.Dname ≡ Answer (Dname example_net ∷ [])
the_owner_answers_its_record = refl

-- a.example.com. becomes a.example.net.
one_label_below :
    found (with_dname example_com example_net) (codes "com" ∷ codes "example" ∷ codes "a" ∷ []) types.A
    ≡ Rewrite true example_com (codes "net" ∷ codes "example" ∷ codes "a" ∷ [])
one_label_below = refl

-- a.b.example.com. becomes a.b.example.net.
two_labels_below :
    found (with_dname example_com example_net) (codes "com" ∷ codes "example" ∷ codes "b" ∷ codes "a" ∷ []) types.A
    ≡ Rewrite true example_com (codes "net" ∷ codes "example" ∷ codes "b" ∷ codes "a" ∷ [])
two_labels_below = refl

-- ab.example.com. isn't below b.example.com.
the_end_of_a_label_is_no_label :
    found (with_dname (codes "com" ∷ codes "example" ∷ codes "b" ∷ []) example_net)
    (codes "com" ∷ codes "example" ∷ codes "ab" ∷ []) types.A
    ≡ NxDomain
the_end_of_a_label_is_no_label = refl

-- a.x.example.com. becomes a.example.net.
labels_are_lost :
    found (with_dname (codes "com" ∷ codes "example" ∷ codes "x" ∷ []) example_net)
    (codes "com" ∷ codes "example" ∷ codes "x" ∷ codes "a" ∷ []) types.A
    ≡ Rewrite true (codes "com" ∷ codes "example" ∷ codes "x" ∷ []) (codes "net" ∷ codes "example" ∷ codes "a" ∷ [])
labels_are_lost = refl

-- a.example.com. becomes a.y.example.net.
labels_are_won :
    found (with_dname example_com (codes "net" ∷ codes "example" ∷ codes "y" ∷ []))
    (codes "com" ∷ codes "example" ∷ codes "a" ∷ []) types.A
    ≡ Rewrite true example_com (codes "net" ∷ codes "example" ∷ codes "y" ∷ codes "a" ∷ [])
labels_are_won = refl

-- cyc.example.com. becomes itself
a_name_becomes_itself :
    found (with_dname example_com example_com) (codes "com" ∷ codes "example" ∷ codes "cyc" ∷ []) types.A
    ≡ Rewrite true example_com (codes "com" ∷ codes "example" ∷ codes "cyc" ∷ [])
a_name_becomes_itself = refl

-- cyc.example.com. becomes cyc.c.example.com.
a_name_grows :
    found (with_dname example_com (codes "com" ∷ codes "example" ∷ codes "c" ∷ []))
    (codes "com" ∷ codes "example" ∷ codes "cyc" ∷ []) types.A
    ≡ Rewrite true example_com (codes "com" ∷ codes "example" ∷ codes "c" ∷ codes "cyc" ∷ [])
a_name_grows = refl

-- shortloop.x.x. becomes shortloop.x.
a_name_shrinks :
    found (with_dname (codes "x" ∷ []) []) (codes "x" ∷ codes "x" ∷ codes "shortloop" ∷ []) types.A
    ≡ Rewrite true (codes "x" ∷ []) (codes "x" ∷ codes "shortloop" ∷ [])
a_name_shrinks = refl

-- shortloop.x. becomes shortloop.
a_name_shrinks_again :
    found (with_dname (codes "x" ∷ []) []) (codes "x" ∷ codes "shortloop" ∷ []) types.A
    ≡ Rewrite true (codes "x" ∷ []) (codes "shortloop" ∷ [])
a_name_shrinks_again = refl

-- the shortest owner decides where DNAME records stand below each other
the_shortest_owner_decides :
    found (zone_at [] (rr example_com (Dname example_net) ∷ rr top (Dname (codes "net" ∷ [])) ∷ []))
    (codes "com" ∷ codes "example" ∷ codes "a" ∷ []) types.A
    ≡ Rewrite true top (codes "net" ∷ codes "example" ∷ codes "a" ∷ [])
the_shortest_owner_decides = refl

-- four labels of 61 octets
abbrev longest_target : Labels
longest_target =
    replicate 61 120 ∷ replicate 61 120 ∷ replicate 61 120 ∷ replicate 61 120 ∷ []

-- a rewritten name of 255 octets is made
a_name_of_255_octets :
    found (with_dname top longest_target) (codes "com" ∷ codes "abcde" ∷ []) types.A
    ≡ Rewrite true top (replicate 61 120 ∷ replicate 61 120 ∷ replicate 61 120 ∷ replicate 61 120 ∷ codes "abcde" ∷ [])
a_name_of_255_octets = refl

-- its octets
its_octets :
    wire_octets (replicate 61 120 ∷ replicate 61 120 ∷ replicate 61 120 ∷ replicate 61 120 ∷ codes "abcde" ∷ []) ≡ 255
its_octets = refl

-- one of 256 octets isn't
a_name_of_256_octets : found (with_dname top longest_target) (codes "com" ∷ codes "abcdef" ∷ []) types.A ≡ TooLong top
a_name_of_256_octets = refl
