-- Lines, ends and findings, worked by hand. Each is a theorem: a false one stops the check.
use Rattle.std.specs.Prelude.{◌≡◌, true, List, [], ◌∷◌, codes, map, Some, None}
use Rattle.std.proofs.Common.{refl}
use Rattle.dns_data.specs.Name.{Labels}
use Rattle.dns_data.specs.declared.rdata.Rdata.TheVariants as data_of
use Rattle.dns_data.specs.declared.rr_type.RrType.{RrType}
use Rattle.dns_data.specs.declared.rr_type.RrType.TheVariants as types
use Rattle.net_model.specs.declared.class.Class.TheVariants.{Exact}
use Rattle.net_model.specs.declared.walk.Leaf.{Leaf}
use Rattle.net_model.specs.declared.walk.Leaf.TheVariants.{Answer, NoData, NxDomain, Outside}
use Rattle.net_model.specs.declared.walk.State.{State}
use Rattle.net_model.specs.declared.walk.Walk.{Walk}
use Rattle.site_checks.specs.AOnly.{a_only}
use Rattle.site_checks.specs.Answering.{answering}
use Rattle.site_checks.specs.Ends.{end_of, ends_of, typed_end}
use Rattle.site_checks.specs.Line.{line_of}
use Rattle.site_checks.specs.Views.{findings_of}
use Rattle.site_checks.specs.declared.views.TypedEnd.{TypedEnd}
use Rattle.site_checks.specs.declared.views.View.{View}

-- ---- lines

first_and_last_octet : line_of (32 ∷ 126 ∷ []) ≡ Some (32 ∷ 126 ∷ [])
first_and_last_octet = refl

no_octets : line_of [] ≡ Some []
no_octets = refl

octet_31 : line_of (97 ∷ 31 ∷ []) ≡ None
octet_31 = refl

octet_127 : line_of (127 ∷ 97 ∷ []) ≡ None
octet_127 = refl

-- ---- ends

abbrev t : Labels
t = codes "t" ∷ []

abbrev www : Labels
www = codes "t" ∷ codes "www" ∷ []

abbrev ns1 : Labels
ns1 = codes "t" ∷ codes "ns1" ∷ []

abbrev ns2 : Labels
ns2 = codes "t" ∷ codes "ns2" ∷ []

-- a state at a server
abbrev at_server : Labels → State
at_server server = record { server = server; name = www; carried = true; cut = 0; used = 0; last = None; zone = Some t }

-- a walk that comes to these servers one after the other
abbrev walk_by : List Labels → Leaf → Walk
walk_by servers leaf = record { states = map at_server servers; hops = []; leaf = leaf }

abbrev one : Leaf
one = Answer (data_of.A (10 ∷ 0 ∷ 0 ∷ 1 ∷ []) ∷ [])

abbrev two : Leaf
two = Answer (data_of.A (10 ∷ 0 ∷ 0 ∷ 2 ∷ []) ∷ [])

-- the end of a walk is at its last server
ends_at_the_last : end_of types.A (walk_by (ns1 ∷ ns2 ∷ []) one) ≡ typed_end types.A ns2 one
ends_at_the_last = refl

-- five walks with A, of which two end as an earlier one does; two with AAAA; and one with TXT
abbrev some_walks : RrType → List Walk
some_walks types.A =
    walk_by (ns2 ∷ []) two ∷ walk_by (ns1 ∷ ns2 ∷ []) one ∷ walk_by (ns1 ∷ []) one ∷ walk_by (ns2 ∷ ns1 ∷ []) one
    ∷ walk_by (ns1 ∷ ns2 ∷ []) two ∷ []
some_walks types.Aaaa = walk_by (ns1 ∷ []) NoData ∷ walk_by (ns2 ∷ ns1 ∷ []) NoData ∷ []
some_walks types.Txt = walk_by (ns2 ∷ []) NxDomain ∷ []
some_walks rtype = []

-- each end stands once for each type, where it comes first; A has the number 1, TXT 16, AAAA 28
each_end_once :
    ends_of some_walks
    ≡ typed_end types.A ns2 two ∷ typed_end types.A ns2 one ∷ typed_end types.A ns1 one ∷ typed_end types.Txt ns2 NxDomain
    ∷ typed_end types.Aaaa ns1 NoData ∷ []
each_end_once = refl

-- ---- findings

abbrev view_of : List TypedEnd → View
view_of ends = record { class = Exact www; query = www; ends = ends }

abbrev six : Leaf
six = Answer (data_of.Aaaa (32 ∷ 1 ∷ 13 ∷ 184 ∷ 0 ∷ 0 ∷ 0 ∷ 0 ∷ 0 ∷ 0 ∷ 0 ∷ 0 ∷ 0 ∷ 0 ∷ 0 ∷ 1 ∷ []) ∷ [])

-- an IPv4 address alone is found, though another server has none
four_alone : a_only (codes "x" ∷ []) (view_of (typed_end types.A ns1 NoData ∷ typed_end types.A ns2 one ∷ typed_end types.Aaaa ns2 NoData ∷ [])) ≡ codes "x" ∷ codes "a-only www.t." ∷ []
four_alone = refl

-- with an IPv6 address at any server it isn't
four_and_six : a_only [] (view_of (typed_end types.A ns1 one ∷ typed_end types.Aaaa ns1 NoData ∷ typed_end types.Aaaa ns2 six ∷ [])) ≡ []
four_and_six = refl

-- nor is a name without addresses, or with an IPv6 address alone
six_alone : a_only [] (view_of (typed_end types.A ns1 Outside ∷ typed_end types.Aaaa ns1 six ∷ [])) ≡ []
six_alone = refl

-- the servers that answer with some type, each once
servers_that_answer :
    answering (codes "answers ns2.t." ∷ [])
    (view_of (typed_end types.A ns1 one ∷ typed_end types.A ns2 two ∷ typed_end types.Mx ns1 NoData ∷ typed_end types.Aaaa ns1 six ∷ []))
    ≡ codes "answers ns2.t." ∷ codes "answers ns1.t." ∷ []
servers_that_answer = refl

-- what is found in two views is found in order
findings_in_order :
    findings_of (record { name = codes "a-only"; held = []; step = a_only })
    (view_of (typed_end types.A ns1 one ∷ []) ∷ record { class = Exact t; query = t; ends = typed_end types.A ns1 one ∷ [] } ∷ [])
    ≡ codes "a-only www.t." ∷ codes "a-only t." ∷ []
findings_in_order = refl
