-- Walks as values of JSON: the list of their steps.
use Rattle.std.specs.Prelude.{ℕ, Bool, List, [], ◌∷◌, ◌++◌, codes, Option, Some, None, if◌then◌else◌}
use Rattle.dns_data.specs.Name.{Labels}
use Rattle.dns_data.specs.declared.rdata.Rdata.{Rdata}
use Rattle.net_model.specs.declared.place.Place.{Place}
use Rattle.net_model.specs.declared.walk.Hop.{Hop}
use Rattle.net_model.specs.declared.walk.Hop.TheVariants.{Refer, Rewrite}
use Rattle.net_model.specs.declared.walk.Leaf.{Leaf}
use Rattle.net_model.specs.declared.walk.Leaf.TheVariants.{Answer, NoData, NxDomain, Outside, Unhosted, Lame, Limit, Overlong, NoAddress}
use Rattle.net_model.specs.declared.walk.State.{State}
use Rattle.net_model.specs.declared.walk.Walk.{Walk}
use Rattle.serde_json.specs.Data.{Data, string}
use Rattle.serde_json.specs.Written.{compact_text}
use Rattle.report_json.specs.Json.{array_of, object_of, name_value, texts_value}

-- the zone, as the last member of a step: there is none where the server holds no zone for the name
abbrev pub zone_member : Option Labels → List (List ℕ × Data)
zone_member None = []
zone_member (Some zone) = (codes "zone", name_value zone) ∷ []

-- what a rewrite was made by
abbrev pub rewrite_word : Bool → List ℕ
rewrite_word by_dname = if by_dname then codes "dname" else codes "cname"

-- the JSON value of a referral to a name server, or of a rewrite
abbrev pub hop_value : State → Hop → Data
hop_value state (Refer cut) = object_of (
    (codes "cut", name_value cut.cut)
    ∷ (codes "did", string (codes "refer"))
    ∷ (codes "name", name_value state.name)
    ∷ (codes "ns", name_value cut.ns)
    ∷ (codes "server", name_value cut.server)
    ∷ (codes "zone", name_value cut.zone) ∷ [])
hop_value state (Rewrite place by_dname to) = object_of (
    (codes "did", string (rewrite_word by_dname))
    ∷ (codes "name", name_value state.name)
    ∷ (codes "owner", name_value place.owner)
    ∷ (codes "server", name_value place.server)
    ∷ (codes "to", name_value to)
    ∷ (codes "zone", name_value place.zone) ∷ [])

-- the JSON value of an answer with data
abbrev pub answer_value : State → List Rdata → Data
answer_value state rdata = object_of (
    (codes "did", string (codes "answer"))
    ∷ (codes "name", name_value state.name)
    ∷ (codes "rdata", texts_value rdata)
    ∷ (codes "server", name_value state.server) ∷ zone_member state.zone)

-- the JSON value of a step to a server that has no data, no such name, or no zone for the name
abbrev pub absence_value : State → List ℕ → Data
absence_value state did = object_of (
    (codes "did", string did)
    ∷ (codes "name", name_value state.name)
    ∷ (codes "server", name_value state.server) ∷ zone_member state.zone)

-- the JSON value of a name server at which the walk stops
abbrev pub stop_value : State → List ℕ → Labels → Data
stop_value state did ns = object_of (
    (codes "did", string did)
    ∷ (codes "name", name_value state.name)
    ∷ (codes "ns", name_value ns) ∷ [])

-- the JSON value of a rewrite that isn't made
abbrev pub unmade_value : State → List ℕ → Place → Data
unmade_value state did place = object_of (
    (codes "did", string did)
    ∷ (codes "name", name_value state.name)
    ∷ (codes "owner", name_value place.owner)
    ∷ (codes "server", name_value state.server) ∷ zone_member state.zone)

-- the JSON value of the last step of a walk
abbrev pub leaf_value : State → Leaf → Data
leaf_value state (Answer rdata) = answer_value state rdata
leaf_value state NoData = absence_value state (codes "nodata")
leaf_value state NxDomain = absence_value state (codes "nxdomain")
leaf_value state Outside = absence_value state (codes "outside")
leaf_value state (Unhosted ns) = stop_value state (codes "unhosted") ns
leaf_value state (Lame ns) = stop_value state (codes "lame") ns
leaf_value state (Limit place) = unmade_value state (codes "limit") place
leaf_value state (Overlong place) = unmade_value state (codes "overlong") place
leaf_value state (NoAddress ns) = stop_value state (codes "no-address") ns

-- the JSON values of the hops, each in the state from which it leads
abbrev pub hop_values : List State → List Hop → List Data
hop_values (state ∷ states) (hop ∷ hops) = hop_value state hop ∷ hop_values states hops
hop_values states hops = []

-- the JSON value of the end of a walk, in its last state
abbrev pub end_values : Leaf → List State → List Data
end_values leaf [] = []
end_values leaf (state ∷ []) = leaf_value state leaf ∷ []
end_values leaf (state ∷ next ∷ states) = end_values leaf (next ∷ states)

-- the JSON value of a walk: its steps, in order
abbrev pub walk_value : Walk → Data
walk_value walk = array_of (hop_values walk.states walk.hops ++ end_values walk.leaf walk.states)

-- the text of a walk, without white space
abbrev pub walk_text : Walk → List ℕ
walk_text walk = compact_text (walk_value walk)
