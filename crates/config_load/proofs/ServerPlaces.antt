-- Servers with a zone more, and how they are found.
use Rattle.std.proofs.Common.{◌≡◌, ℕ, zero, suc, ◌<◌, Bool, true, false, not, cond, ◌&&◌, ◌||◌, List, [], ◌∷◌, ◌++◌, length, Option, Some, None, Result, Ok, Err, OnOk, get_or, slice_set, if◌then◌else◌, refl, subst, sym, ap, ◌∙◌, arith}
use Rattle.std.specs.BTreeMap as map
use Rattle.std.specs.BTreeSet as tree
use Rattle.std.specs.BTreeMap.{is_at}
use Rattle.std.specs.Cmp.Lexicographic.{slice_cmp, lists_ties, texts_ties, nat_list_eq_equiv, lists_equiv}
use Rattle.std.specs.List.{list_any}
use Rattle.std.specs.Option.{option_map, option_or}
use Rattle.std.proofs.lemmas.List.Folds.{list_any-append}
use Rattle.dns_data.specs.Label.{label_cmp}
use Rattle.dns_data.specs.Name.{Labels, name_eq, name_cmp}
use Rattle.dns_data.proofs.Names.{name_eq_decides}
use Rattle.net_model.specs.declared.config.Server.{Server}
use Rattle.net_model.specs.declared.config.Zone.{Zone}
use Rattle.config_load.specs.Hosted.{server_place, with_zone_at, ArePlaces, AreHeld}
use Rattle.config_load.specs.Servers.{has_zone, with_zone, given}
use Rattle.config_load.specs.declared.fault.LoadFault.TheVariants.{ZoneTwice}

-- a place is that of a server
pub place_of-below : (name : Labels) (servers : List Server) (place : ℕ) → server_place name servers ≡ Some place → place < length servers
place_of-below name [] place is = absurd cc
place_of-below name (server ∷ servers) place is =
    by_test (name_eq name server.name) (server_place name servers) (place_of-below name servers) is
  where
    by_test : (here : Bool) (rest : Option ℕ) → ((p : ℕ) → rest ≡ Some p → p < length servers) → (if here then Some 0 else option_map (λ p. suc p) rest) ≡ Some place → place < length (server ∷ servers)
    by_test true rest below is = let e : 0 ≡ place = cc in omega arith
    by_test false (Some p) below is = let e : suc p ≡ place = cc in omega (arith, below p refl)
    by_test false None below is = absurd cc

-- a zone that goes to the server of this name, where there is one, goes to the server at its place
pub with_zone-at : (name : Labels) (zone : Zone) (servers : List Server) (place : ℕ) → server_place name servers ≡ Some place → with_zone name zone servers ≡ with_zone_at place zone servers
with_zone-at name zone [] place is = absurd cc
with_zone-at name zone (server ∷ servers) place is =
    by_test (name_eq name server.name) (server_place name servers) (with_zone-at name zone servers) place is
  where
    more : Server
    more = record server { zones = server.zones ++ zone ∷ [] }

    by_test : (here : Bool) (rest : Option ℕ) → ((p : ℕ) → rest ≡ Some p → with_zone name zone servers ≡ with_zone_at p zone servers) → (place : ℕ) → (if here then Some 0 else option_map (λ p. suc p) rest) ≡ Some place → (if here then more ∷ servers else server ∷ with_zone name zone servers) ≡ with_zone_at place zone (server ∷ servers)
    by_test true rest same place is = let e : 0 ≡ place = cc in ap (λ p. with_zone_at p zone (server ∷ servers)) e
    by_test false (Some p) same place is = let e : suc p ≡ place = cc in ap (λ ss. server ∷ ss) (same p refl) ∙ ap (λ p. with_zone_at p zone (server ∷ servers)) e
    by_test false None same place is = absurd cc

-- a zone of a server that isn't there yet goes to a new server behind the others
pub with_zone-new : (name : Labels) (zone : Zone) (servers : List Server) → server_place name servers ≡ None → with_zone name zone servers ≡ servers ++ (record { name = name; zones = zone ∷ [] }) ∷ []
with_zone-new name zone [] is = refl
with_zone-new name zone (server ∷ servers) is =
    by_test (name_eq name server.name) (server_place name servers) (with_zone-new name zone servers) is
  where
    by_test : (here : Bool) (rest : Option ℕ) → (rest ≡ None → with_zone name zone servers ≡ servers ++ (record { name = name; zones = zone ∷ [] }) ∷ []) → (if here then Some 0 else option_map (λ p. suc p) rest) ≡ None → (if here then (record server { zones = server.zones ++ zone ∷ [] }) ∷ servers else server ∷ with_zone name zone servers) ≡ server ∷ (servers ++ (record { name = name; zones = zone ∷ [] }) ∷ [])
    by_test true rest new is = absurd cc
    by_test false (Some p) new is = absurd cc
    by_test false None new is = ap (λ ss. server ∷ ss) (new refl)

-- a zone more at a server that is there moves no server
pub place_of-kept : (name other : Labels) (zone : Zone) (servers : List Server) (place : ℕ) → server_place name servers ≡ Some place → server_place other (with_zone_at place zone servers) ≡ server_place other servers
place_of-kept name other zone servers place is = kept servers place where
  kept : (servers : List Server) (place : ℕ) → server_place other (with_zone_at place zone servers) ≡ server_place other servers
  kept [] place = refl
  kept (server ∷ servers) zero = refl
  kept (server ∷ servers) (suc place) = ap (λ rest. if name_eq other server.name then Some 0 else option_map (λ p. suc p) rest) (kept servers place)

-- the place of a server that comes behind the others is their number
pub place_of-more : (other : Labels) (servers : List Server) (last : Server) → server_place other (servers ++ last ∷ []) ≡ option_or (server_place other servers) (if name_eq other last.name then Some (length servers) else None)
place_of-more other [] last = elim (name_eq other last.name) as (λ b. (if b then Some 0 else option_map (λ p. suc p) None) ≡ (if b then Some 0 else None)) [ true ↦ refl | false ↦ refl ]
place_of-more other (server ∷ servers) last =
    ap (λ rest. if name_eq other server.name then Some 0 else option_map (λ p. suc p) rest) (place_of-more other servers last)
    ∙ by_tests (name_eq other server.name) (server_place other servers) (name_eq other last.name)
  where
    by_tests : (here : Bool) (rest : Option ℕ) (at_last : Bool) → (if here then Some 0 else option_map (λ p. suc p) (option_or rest (if at_last then Some (length servers) else None))) ≡ option_or (if here then Some 0 else option_map (λ p. suc p) rest) (if at_last then Some (length (server ∷ servers)) else None)
    by_tests true rest at_last = refl
    by_tests false (Some p) at_last = refl
    by_tests false None true = refl
    by_tests false None false = refl

-- the servers with one zone more have the zones that they had and this one
pub has_zone-more : (name : Labels) (zone : Zone) (servers : List Server) (other origin : Labels) → has_zone other origin (with_zone name zone servers) ≡ ((name_eq other name && name_eq origin zone.origin) || has_zone other origin servers)
has_zone-more name zone [] other origin = by_tests (name_eq other name) (name_eq origin zone.origin) where
  by_tests : (a b : Bool) → ((a && (b || false)) || false) ≡ ((a && b) || false)
  by_tests true true = refl
  by_tests true false = refl
  by_tests false b = refl
has_zone-more name zone (server ∷ servers) other origin =
    by_test (has_zone-more name zone servers other origin) (name_eq name server.name) refl
  where
    is_zone : Zone → Bool
    is_zone zone = name_eq origin zone.origin

    rest : Bool
    rest = has_zone other origin servers

    more : Server
    more = record server { zones = server.zones ++ zone ∷ [] }

    at_this : Bool
    at_this = name_eq other name && is_zone zone

    moved : (a b c : Bool) → (a || (b || c)) ≡ (b || (a || c))
    moved true true c = refl
    moved true false c = refl
    moved false true c = refl
    moved false false c = refl

    with_last : (a l z h : Bool) → ((a && (l || (z || false))) || h) ≡ ((a && z) || ((a && l) || h))
    with_last true true true h = refl
    with_last true true false h = refl
    with_last true false true h = refl
    with_last true false false h = refl
    with_last false l z h = refl

    by_test : has_zone other origin (with_zone name zone servers) ≡ (at_this || rest) → (here : Bool) → name_eq name server.name ≡ here → has_zone other origin (if here then more ∷ servers else server ∷ with_zone name zone servers) ≡ (at_this || has_zone other origin (server ∷ servers))
    by_test later true same =
        let one : server.name ≡ name = sym ((name_eq_decides name server.name).0 same) in
        let old : Bool = list_any is_zone server.zones in
        ap (λ had. (name_eq other server.name && had) || rest) (list_any-append is_zone server.zones (zone ∷ []))
        ∙ ap (λ n. (name_eq other n && (old || (is_zone zone || false))) || rest) one
        ∙ with_last (name_eq other name) old (is_zone zone) rest
        ∙ ap (λ n. at_this || ((name_eq other n && old) || rest)) (sym one)
    by_test later false apart =
        ap (λ has. (name_eq other server.name && list_any is_zone server.zones) || has) later
        ∙ moved (name_eq other server.name && list_any is_zone server.zones) at_this rest

-- writing a server with one zone more over the server at a place gives that server the zone
pub with_zone_at-set : (servers : List Server) (place : ℕ) (server : Server) (zone : Zone) (zones : List Zone) → place < length servers → server ≡ get_or servers place server → zones ≡ server.zones ++ zone ∷ [] → slice_set servers place (record { name = server.name; zones = zones }) ≡ with_zone_at place zone servers
with_zone_at-set [] place server zone zones below here more = absurd (omega arith)
with_zone_at-set (first ∷ servers) zero server zone zones below here more =
    λ i. (record { name = (here i).name; zones = both i }) ∷ servers
  where
    both : zones ≡ first.zones ++ zone ∷ []
    both = more ∙ ap (λ s. s.zones ++ zone ∷ []) here
with_zone_at-set (first ∷ servers) (suc place) server zone zones below here more =
    ap (λ ss. first ∷ ss) (with_zone_at-set servers place server zone zones (omega arith) here more)

-- places stay where a server gets a zone more
pub ArePlaces-kept : (places : map.BTreeMap Labels ℕ) (name : Labels) (zone : Zone) (servers : List Server) (place : ℕ) → ArePlaces places servers → server_place name servers ≡ Some place → ArePlaces places (with_zone_at place zone servers)
ArePlaces-kept places name zone servers place are here other =
    are other ∙ sym (place_of-kept name other zone servers place here)

-- the places of servers are right with one more server, whose place is behind the others
pub ArePlaces-more : (old new : map.BTreeMap Labels ℕ) (name : Labels) (zones : List Zone) (servers : List Server) → ArePlaces old servers → server_place name servers ≡ None → map.Updates name_cmp old new name (Some (length servers)) → ArePlaces new (servers ++ (record { name = name; zones = zones }) ∷ [])
ArePlaces-more old new name zones servers are none updates other =
    updates.0 other
    ∙ (λ i. cond (test i) (Some (length servers)) (are other i))
    ∙ by_test (name_eq other name) refl
    ∙ sym (place_of-more other servers (record { name = name; zones = zones }))
  where
    test : is_at (name_cmp name) other ≡ name_eq other name
    test = sym (lists_ties label_cmp texts_ties name other) ∙ (lists_equiv nat_list_eq_equiv).symm name other

    or_none : (o : Option ℕ) → o ≡ option_or o None
    or_none (Some place) = refl
    or_none None = refl

    by_test : (same : Bool) → name_eq other name ≡ same → cond same (Some (length servers)) (server_place other servers) ≡ option_or (server_place other servers) (if same then Some (length servers) else None)
    by_test true same =
        let one : other ≡ name = (name_eq_decides other name).0 same in
        let gone : server_place other servers ≡ None = ap (λ n. server_place n servers) one ∙ none in
        sym (ap (λ o. option_or o (Some (length servers))) gone)
    by_test false apart = or_none (server_place other servers)

-- a set that tells which zones servers have tells of one zone more once its name and origin are put in
pub AreHeld-more : (old new : tree.BTreeSet (List Labels)) (name : Labels) (zone : Zone) (servers : List Server) → AreHeld old servers → tree.Updates (slice_cmp name_cmp) old new (zone.origin ∷ name ∷ []) true → AreHeld new (with_zone name zone servers)
AreHeld-more old new name zone servers are updates other origin =
    updates.0 (origin ∷ other ∷ [])
    ∙ (λ i. cond (test i) true (are other origin i))
    ∙ by_tests (name_eq other name) (name_eq origin zone.origin) (has_zone other origin servers)
    ∙ sym (has_zone-more name zone servers other origin)
  where
    test : is_at (slice_cmp name_cmp (zone.origin ∷ name ∷ [])) (origin ∷ other ∷ []) ≡ (name_eq origin zone.origin && (name_eq other name && true))
    test =
        sym (lists_ties name_cmp (lists_ties label_cmp texts_ties) (zone.origin ∷ name ∷ []) (origin ∷ other ∷ []))
        ∙ (λ i. (lists_equiv nat_list_eq_equiv).symm zone.origin origin i && ((lists_equiv nat_list_eq_equiv).symm name other i && true))

    by_tests : (a b has : Bool) → cond (b && (a && true)) true has ≡ ((a && b) || has)
    by_tests true true has = refl
    by_tests true false has = refl
    by_tests false true has = refl
    by_tests false false has = refl

-- places after a call that puts a server behind the others, where it didn't fail
pub ArePlaces-pushed : {T E : Type 0} (r : Result T E) (old new : map.BTreeMap Labels ℕ) (name : Labels) (zone : Zone) (servers after : List Server) → ArePlaces old servers → server_place name servers ≡ None → OnOk r (after ≡ servers ++ (record { name = name; zones = zone ∷ [] }) ∷ []) → OnOk r (map.Updates name_cmp old new name (Some (length servers))) → OnOk r (ArePlaces new after)
ArePlaces-pushed (Ok _) old new name zone servers after are none put updates =
    subst (λ (others : List Server). ArePlaces new others) (sym put) (ArePlaces-more old new name (zone ∷ []) servers are none updates)
ArePlaces-pushed (Err _) old new name zone servers after are none put updates = tt

-- a zone that was told before is given twice
pub given-twice : (number : ℕ) (name : Labels) (zone : Zone) (servers : List Server) → has_zone name zone.origin servers ≡ true → given number name zone servers ≡ Err (ZoneTwice number)
given-twice number name zone servers had =
    ap (λ b. if b then Err (ZoneTwice number) else Ok (with_zone name zone servers)) had

-- a zone that its server has not is given
pub given-more : (number : ℕ) (name : Labels) (zone : Zone) (servers : List Server) → has_zone name zone.origin servers ≡ false → given number name zone servers ≡ Ok (with_zone name zone servers)
given-more number name zone servers new =
    ap (λ b. if b then Err (ZoneTwice number) else Ok (with_zone name zone servers)) new

-- a set had a key exactly if a call that adds the key says that it was known
pub known-added : (added had known : Bool) → added ≡ known → added ≡ not had → had ≡ not known
known-added true true known a b = absurd cc
known-added true false known a b = sym (ap not (sym a))
known-added false true known a b = sym (ap not (sym a))
known-added false false known a b = absurd cc
