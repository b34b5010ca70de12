-- Texts that were worked out by hand.
use Rattle.std.specs.Prelude.{ℕ, Bool, ◌≡◌, refl, true, false, List, [], ◌∷◌, codes, None, Some}
use Rattle.std.specs.Fmt.{digits}
use Rattle.serde_json.proofs.OnLiterals.{serde_json_on_literals}
use Rattle.dns_data.specs.Name.{Labels}
use Rattle.dns_data.specs.declared.rdata.Rdata.TheVariants.{Txt}
use Rattle.dns_data.specs.declared.rr_type.RrType.{RrType}
use Rattle.dns_data.specs.declared.rr_type.RrType.TheVariants as types
use Rattle.net_model.specs.declared.class.Class.TheVariants.{Below}
use Rattle.net_model.specs.declared.fault.Fault.{Fault}
use Rattle.net_model.specs.declared.fault.Fault.TheVariants as faults
use Rattle.net_model.specs.declared.place.Cut.{Cut}
use Rattle.net_model.specs.declared.place.Place.{Place}
use Rattle.net_model.specs.declared.walk.Hop.{Hop}
use Rattle.net_model.specs.declared.walk.Hop.TheVariants.{Refer, Rewrite}
use Rattle.net_model.specs.declared.walk.Leaf.{Leaf}
use Rattle.net_model.specs.declared.walk.Leaf.TheVariants as leaves
use Rattle.net_model.specs.declared.walk.State.{State}
use Rattle.net_model.specs.declared.walk.Walk.{Walk}
use Rattle.report_json.specs.Ask.{ask_text}
use Rattle.graph_form.specs.declared.report.Report.{Report}
use Rattle.graph_form.specs.declared.report.ReportEntry.{ReportEntry}
use Rattle.report_json.specs.Report.{entry_text, report_text}
use Rattle.report_json.specs.Sites.{sites_text, scope_text}
use Rattle.report_json.specs.Walks.{walk_text}
use Rattle.site_checks.specs.declared.shown.SiteFindings.{SiteFindings}

abbrev t : Labels
t = codes "t" ∷ []

abbrev a : Labels
a = codes "t" ∷ codes "a" ∷ []

abbrev b : Labels
b = codes "t" ∷ codes "b" ∷ []

abbrev ns : Labels
ns = codes "t" ∷ codes "ns" ∷ []

-- a state at a name, in the zone t. of the server ns.t.
abbrev at : Labels → State
at name = record { server = ns; name = name; carried = true; cut = 0; used = 0; last = None; zone = Some t }

abbrev from : List State → List Hop → Leaf → Walk
from states hops leaf = record { states = states; hops = hops; leaf = leaf }

-- the place of a rewrite at a.t.
abbrev place : Place
place = record { server = ns; zone = t; owner = a }

-- a name server of the cut a.t.
abbrev cut : Cut
cut = record { server = ns; zone = t; cut = a; ns = b }

-- an entry with the query a.t., and a report
abbrev entry : Fault → RrType → Bool → List Walk → ReportEntry
entry fault rtype repeats walks =
    record { seen = record { fault = fault; rtype = rtype }; query = a; repeats = repeats; walks = walks }

abbrev report : ℕ → ℕ → ℕ → List ReportEntry → Report
report classes names rewrites entries = record { classes = classes; names = names; rewrites = rewrites; entries = entries }

-- no data, in a walk of one step
no_data : ask_text b types.Txt (from (at b ∷ []) [] leaves.NoData ∷ [])
    ≡ codes "{\"query\":\"b.t.\",\"type\":\"TXT\",\"walks\":[[{\"did\":\"nodata\",\"name\":\"b.t.\",\"server\":\"ns.t.\",\"zone\":\"t.\"}]]}\n"
unfolding serde_json_on_literals
no_data = refl

-- data whose text has quotes, and two of them
answer : ask_text b types.Txt (from (at b ∷ []) [] (leaves.Answer (Txt (codes "w" ∷ []) ∷ Txt (codes "\\" ∷ []) ∷ [])) ∷ [])
    ≡ codes "{\"query\":\"b.t.\",\"type\":\"TXT\",\"walks\":[[{\"did\":\"answer\",\"name\":\"b.t.\",\"rdata\":[\"\\\"w\\\"\",\"\\\"\\\\\\\\\\\"\"],\"server\":\"ns.t.\",\"zone\":\"t.\"}]]}\n"
unfolding serde_json_on_literals
answer = refl

-- a referral to a name server that is lame, and a walk to a server without a zone for the name
two_walks : ask_text a types.A (from (at a ∷ []) (Refer cut ∷ []) (leaves.Lame b) ∷ from (record (at a) { zone = None } ∷ []) [] leaves.Outside ∷ [])
    ≡ codes "{\"query\":\"a.t.\",\"type\":\"A\",\"walks\":[[{\"cut\":\"a.t.\",\"did\":\"refer\",\"name\":\"a.t.\",\"ns\":\"b.t.\",\"server\":\"ns.t.\",\"zone\":\"t.\"},{\"did\":\"lame\",\"name\":\"a.t.\",\"ns\":\"b.t.\"}],[{\"did\":\"outside\",\"name\":\"a.t.\",\"server\":\"ns.t.\"}]]}\n"
unfolding serde_json_on_literals
two_walks = refl

-- a rewrite by DNAME, and one that isn't made
limit : ask_text a types.A (from (at a ∷ at b ∷ []) (Rewrite place true b ∷ []) (leaves.Limit place) ∷ [])
    ≡ codes "{\"query\":\"a.t.\",\"type\":\"A\",\"walks\":[[{\"did\":\"dname\",\"name\":\"a.t.\",\"owner\":\"a.t.\",\"server\":\"ns.t.\",\"to\":\"b.t.\",\"zone\":\"t.\"},{\"did\":\"limit\",\"name\":\"b.t.\",\"owner\":\"a.t.\",\"server\":\"ns.t.\",\"zone\":\"t.\"}]]}\n"
unfolding serde_json_on_literals
limit = refl

-- no walk
no_walk : ask_text [] types.Ns [] ≡ codes "{\"query\":\".\",\"type\":\"NS\",\"walks\":[]}\n"
unfolding serde_json_on_literals
no_walk = refl

-- a report without an entry, and one on an alias of a name that doesn't exist
clean : report_text (report 6 3 12 []) ≡ codes "{\"classes\":6,\"faults\":[],\"names\":3,\"rewrites\":12}\n"
unfolding serde_json_on_literals digits
clean = refl

blackhole : report_text (report 6 3 12 (entry (faults.Blackhole place) types.A false (from (at a ∷ at b ∷ []) (Rewrite place false b ∷ []) leaves.NxDomain ∷ []) ∷ []))
    ≡ codes "{\"classes\":6,\"faults\":[{\"kind\":\"blackhole\",\"place\":{\"owner\":\"a.t.\",\"server\":\"ns.t.\",\"zone\":\"t.\"},\"query\":\"a.t.\",\"repeats\":false,\"type\":\"A\",\"walks\":[[{\"did\":\"cname\",\"name\":\"a.t.\",\"owner\":\"a.t.\",\"server\":\"ns.t.\",\"to\":\"b.t.\",\"zone\":\"t.\"},{\"did\":\"nxdomain\",\"name\":\"b.t.\",\"server\":\"ns.t.\",\"zone\":\"t.\"}]]}],\"names\":3,\"rewrites\":12}\n"
unfolding serde_json_on_literals digits
blackhole = refl

-- two entries: the place of a delegation, and a class with a type
places : report_text (report 2 1 1 (entry (faults.NoAddress cut) types.A true [] ∷ entry (faults.Answers (Below t) types.Mx) types.Mx false [] ∷ []))
    ≡ codes "{\"classes\":2,\"faults\":[{\"kind\":\"no-address\",\"place\":{\"cut\":\"a.t.\",\"ns\":\"b.t.\",\"server\":\"ns.t.\",\"zone\":\"t.\"},\"query\":\"a.t.\",\"repeats\":true,\"type\":\"A\",\"walks\":[]},{\"kind\":\"answers-differ\",\"place\":{\"class\":\"below\",\"name\":\"t.\",\"type\":\"MX\"},\"query\":\"a.t.\",\"repeats\":false,\"type\":\"MX\",\"walks\":[]}],\"names\":1,\"rewrites\":1}\n"
unfolding serde_json_on_literals digits
places = refl

-- an entry by itself, and a walk
lame : entry_text (entry (faults.Lame cut) types.A false (from (at a ∷ []) (Refer cut ∷ []) (leaves.Lame b) ∷ []))
    ≡ codes "{\"kind\":\"lame-delegation\",\"place\":{\"cut\":\"a.t.\",\"ns\":\"b.t.\",\"server\":\"ns.t.\",\"zone\":\"t.\"},\"query\":\"a.t.\",\"repeats\":false,\"type\":\"A\",\"walks\":[[{\"cut\":\"a.t.\",\"did\":\"refer\",\"name\":\"a.t.\",\"ns\":\"b.t.\",\"server\":\"ns.t.\",\"zone\":\"t.\"},{\"did\":\"lame\",\"name\":\"a.t.\",\"ns\":\"b.t.\"}]]}"
unfolding serde_json_on_literals
lame = refl

alias : walk_text (from (at a ∷ at b ∷ []) (Rewrite place false b ∷ []) leaves.NxDomain)
    ≡ codes "[{\"did\":\"cname\",\"name\":\"a.t.\",\"owner\":\"a.t.\",\"server\":\"ns.t.\",\"to\":\"b.t.\",\"zone\":\"t.\"},{\"did\":\"nxdomain\",\"name\":\"b.t.\",\"server\":\"ns.t.\",\"zone\":\"t.\"}]"
unfolding serde_json_on_literals
alias = refl

-- what two checks tell, what none tells, and what is told behind the report of a scope
abbrev tells : List ℕ → List (List ℕ) → SiteFindings
tells title findings = record { title = title; findings = findings }

two_checks : sites_text (tells (codes "a-only") (codes "a-only www.t." ∷ []) ∷ tells (codes "answering") (codes "answers ns.t." ∷ codes "\"" ∷ []) ∷ [])
    ≡ codes "{\"sites\":[{\"findings\":[\"a-only www.t.\"],\"name\":\"a-only\"},{\"findings\":[\"answers ns.t.\",\"\\\"\"],\"name\":\"answering\"}]}\n"
unfolding serde_json_on_literals
two_checks = refl

no_check : sites_text [] ≡ codes "{\"sites\":[]}\n"
unfolding serde_json_on_literals
no_check = refl

scope : scope_text (report 2 1 12 []) a (tells (codes "a-only") [] ∷ [])
    ≡ codes "{\"classes\":2,\"faults\":[],\"names\":1,\"rewrites\":12,\"scope\":\"a.t.\",\"sites\":[{\"findings\":[],\"name\":\"a-only\"}]}\n"
unfolding serde_json_on_literals digits
scope = refl
