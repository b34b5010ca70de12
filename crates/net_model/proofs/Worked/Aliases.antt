-- CNAME records (RFC 1034 section 3.6.2), and data in order.
use Rattle.std.specs.Prelude.{◌≡◌, refl, [], ◌∷◌, codes, false}
use Rattle.std.specs.Fmt.{digits}
use Rattle.dns_data.specs.Name.{Labels}
use Rattle.dns_data.specs.declared.rdata.Rdata.TheVariants.{A, Cname, Txt}
use Rattle.dns_data.specs.declared.rr_type.RrType.TheVariants as types
use Rattle.net_model.specs.declared.config.Zone.{Zone}
use Rattle.net_model.specs.declared.found.Found.TheVariants.{Rewrite, Answer, NoData}
use Rattle.net_model.specs.Lookup.{found}
use Rattle.net_model.proofs.Words.{rr, zone_at}

abbrev t : Labels
t = codes "t" ∷ []

abbrev a : Labels
a = codes "t" ∷ codes "a" ∷ []

abbrev b : Labels
b = codes "t" ∷ codes "b" ∷ []

abbrev star : Labels
star = codes "t" ∷ codes "a" ∷ codes "*" ∷ []

-- a zone with an alias, a wildcard alias, and the first address twice behind a greater one
abbrev aliases : Zone
aliases =
    zone_at t
    (rr a (Cname b)
    ∷ rr star (Cname b)
    ∷ rr b (A (10 ∷ 0 ∷ 0 ∷ 2 ∷ []))
    ∷ rr b (A (10 ∷ 0 ∷ 0 ∷ 10 ∷ []))
    ∷ rr b (A (10 ∷ 0 ∷ 0 ∷ 2 ∷ []))
    ∷ rr b (Txt (codes "w" ∷ []))
    ∷ [])

-- an alias rewrites the query of another type
an_alias_rewrites : found aliases a types.A ≡ Rewrite false a b
an_alias_rewrites = refl

-- type CNAME asks for the alias itself
type_cname_asks_for_the_alias : found aliases a types.Cname ≡ Answer (Cname b ∷ [])
type_cname_asks_for_the_alias = refl

-- a name that is no alias has no data of type CNAME
no_alias : found aliases b types.Cname ≡ NoData
no_alias = refl

-- a wildcard's alias rewrites, and the wildcard is the owner
a_wildcard_alias_rewrites : found aliases (codes "t" ∷ codes "a" ∷ codes "x" ∷ []) types.A ≡ Rewrite false star b
a_wildcard_alias_rewrites = refl

-- equal data count once, in the order of their texts: 10.0.0.10 before 10.0.0.2
data_are_in_the_order_of_their_texts :
    found aliases b types.A ≡ Answer (A (10 ∷ 0 ∷ 0 ∷ 10 ∷ []) ∷ A (10 ∷ 0 ∷ 0 ∷ 2 ∷ []) ∷ [])
unfolding digits
data_are_in_the_order_of_their_texts = refl
