-- The values of the texts are plain, and nest seven deep at most. None has a number with a fraction.
use Rattle.std.proofs.Common.{◌≡◌, ℕ, ◌≤◌, ◌<◌, ◌^◌, false, List, [], ◌∷◌, ◌++◌, map, Option, Some, None, codes, refl, arith}
use Rattle.dns_data.specs.declared.rdata.Rdata.{Rdata}
use Rattle.dns_data.specs.Name.{Labels}
use Rattle.dns_data.specs.declared.rr_type.RrType.{RrType}
use Rattle.net_model.specs.declared.fault.Fault.{Fault}
use Rattle.net_model.specs.declared.fault.Fault.TheVariants as faults
use Rattle.net_model.specs.declared.walk.Hop.{Hop}
use Rattle.net_model.specs.declared.walk.Hop.TheVariants.{Refer, Rewrite}
use Rattle.net_model.specs.declared.walk.Leaf.{Leaf}
use Rattle.net_model.specs.declared.walk.Leaf.TheVariants.{Answer, NoData, NxDomain, Outside, Unhosted, Lame, Limit, Overlong, NoAddress}
use Rattle.net_model.specs.declared.walk.State.{State}
use Rattle.net_model.specs.declared.walk.Walk.{Walk}
use Rattle.serde_json.specs.Data as values
use Rattle.serde_json.specs.Data.{Data, depth, items_depth, members_depth}
use Rattle.serde_json.specs.Written.{has_float}
use Rattle.report_json.specs.Ask.{ask_value}
use Rattle.report_json.specs.Plain.{IsPlain, ArePlain, MembersPlain}
use Rattle.dns_data.specs.Spelling.{name_text}
use Rattle.report_json.specs.Json.{json_items, json_members, data_value, texts_value}
use Rattle.report_json.specs.Walks.{zone_member, hop_value, hop_values, leaf_value, end_values, walk_value}
use Rattle.report_json.specs.Faults.{fault_value}
use Rattle.report_json.specs.Report.{entry_value, report_value}
use Rattle.report_json.specs.Sites.{site_value, sites_value, scope_value}
use Rattle.graph_form.specs.declared.report.Report.{Report}
use Rattle.graph_form.specs.declared.report.ReportEntry.{ReportEntry}
use Rattle.site_checks.specs.declared.shown.SiteFindings.{SiteFindings}
use Rattle.report_json.proofs.ReadBack.{no_float, items_no_float}

-- ---- lists

each_plain : {X : Type 0} (f : X → Data) → ((x : X) → IsPlain (f x)) → (xs : List X) → ArePlain (json_items (map f xs))
each_plain f h [] = tt
each_plain f h (x ∷ xs) = (h x, each_plain f h xs)

each_deep : {X : Type 0} (f : X → Data) (n : ℕ) → ((x : X) → depth (f x) ≤ n) → (xs : List X) → items_depth (json_items (map f xs)) ≤ n
each_deep f n h [] = omega arith
each_deep f n h (x ∷ xs) = omega (arith, h x, each_deep f n h xs)

-- ---- steps

hop_is_plain : (state : State) (hop : Hop) → IsPlain (hop_value state hop)
hop_is_plain state (Refer cut) = ((refl, (refl, (refl, (refl, (refl, tt))))), tt, ((refl, (refl, (refl, (refl, tt)))), tt, ((refl, (refl, (refl, tt))), tt, ((refl, (refl, tt)), tt, ((refl, tt), tt, (tt, tt, tt))))))
hop_is_plain state (Rewrite place by_dname to) = ((refl, (refl, (refl, (refl, (refl, tt))))), tt, ((refl, (refl, (refl, (refl, tt)))), tt, ((refl, (refl, (refl, tt))), tt, ((refl, (refl, tt)), tt, ((refl, tt), tt, (tt, tt, tt))))))

texts_are_plain : (rdata : List Rdata) → ArePlain (json_items (map data_value rdata))
texts_are_plain rdata = each_plain data_value (λ one. tt) rdata

texts_are_deep : (rdata : List Rdata) → items_depth (json_items (map data_value rdata)) ≤ 0
texts_are_deep rdata = each_deep data_value 0 (λ one. omega arith) rdata

abbrev text : List ℕ → Data
text s = values.string s

-- a step of three members, and perhaps a zone
three : (a b c : List ℕ) (zone : Option Labels) → MembersPlain (json_members ((codes "did", text a) ∷ (codes "name", text b) ∷ (codes "server", text c) ∷ zone_member zone))
three a b c None = ((refl, (refl, tt)), tt, ((refl, tt), tt, (tt, tt, tt)))
three a b c (Some zone) = ((refl, (refl, (refl, tt))), tt, ((refl, (refl, tt)), tt, ((refl, tt), tt, (tt, tt, tt))))

three_deep : (a b c : List ℕ) (zone : Option Labels) → members_depth (json_members ((codes "did", text a) ∷ (codes "name", text b) ∷ (codes "server", text c) ∷ zone_member zone)) ≤ 1
three_deep a b c None = omega arith
three_deep a b c (Some zone) = omega arith

four : (a b c d : List ℕ) (zone : Option Labels) → MembersPlain (json_members ((codes "did", text a) ∷ (codes "name", text b) ∷ (codes "owner", text c) ∷ (codes "server", text d) ∷ zone_member zone))
four a b c d None = ((refl, (refl, (refl, tt))), tt, ((refl, (refl, tt)), tt, ((refl, tt), tt, (tt, tt, tt))))
four a b c d (Some zone) = ((refl, (refl, (refl, (refl, tt)))), tt, ((refl, (refl, (refl, tt))), tt, ((refl, (refl, tt)), tt, ((refl, tt), tt, (tt, tt, tt)))))

four_deep : (a b c d : List ℕ) (zone : Option Labels) → members_depth (json_members ((codes "did", text a) ∷ (codes "name", text b) ∷ (codes "owner", text c) ∷ (codes "server", text d) ∷ zone_member zone)) ≤ 1
four_deep a b c d None = omega arith
four_deep a b c d (Some zone) = omega arith

answer : (a b d : List ℕ) (rdata : List Rdata) (zone : Option Labels)
    → MembersPlain (json_members ((codes "did", text a) ∷ (codes "name", text b) ∷ (codes "rdata", texts_value rdata) ∷ (codes "server", text d) ∷ zone_member zone))
answer a b d rdata None = ((refl, (refl, (refl, tt))), tt, ((refl, (refl, tt)), tt, ((refl, tt), texts_are_plain rdata, (tt, tt, tt))))
answer a b d rdata (Some zone) = ((refl, (refl, (refl, (refl, tt)))), tt, ((refl, (refl, (refl, tt))), tt, ((refl, (refl, tt)), texts_are_plain rdata, ((refl, tt), tt, (tt, tt, tt)))))

answer_deep : (a b d : List ℕ) (rdata : List Rdata) (zone : Option Labels)
    → members_depth (json_members ((codes "did", text a) ∷ (codes "name", text b) ∷ (codes "rdata", texts_value rdata) ∷ (codes "server", text d) ∷ zone_member zone)) ≤ 1
answer_deep a b d rdata None = omega (arith, texts_are_deep rdata)
answer_deep a b d rdata (Some zone) = omega (arith, texts_are_deep rdata)

stop : (a b c : List ℕ) → MembersPlain (json_members ((codes "did", text a) ∷ (codes "name", text b) ∷ (codes "ns", text c) ∷ []))
stop a b c = ((refl, (refl, tt)), tt, ((refl, tt), tt, (tt, tt, tt)))

leaf_is_plain : (state : State) (leaf : Leaf) → IsPlain (leaf_value state leaf)
leaf_is_plain state (Answer rdata) = answer (codes "answer") (name_text state.name) (name_text state.server) rdata state.zone
leaf_is_plain state NoData = three (codes "nodata") (name_text state.name) (name_text state.server) state.zone
leaf_is_plain state NxDomain = three (codes "nxdomain") (name_text state.name) (name_text state.server) state.zone
leaf_is_plain state Outside = three (codes "outside") (name_text state.name) (name_text state.server) state.zone
leaf_is_plain state (Unhosted ns) = stop (codes "unhosted") (name_text state.name) (name_text ns)
leaf_is_plain state (Lame ns) = stop (codes "lame") (name_text state.name) (name_text ns)
leaf_is_plain state (Limit place) = four (codes "limit") (name_text state.name) (name_text place.owner) (name_text state.server) state.zone
leaf_is_plain state (Overlong place) = four (codes "overlong") (name_text state.name) (name_text place.owner) (name_text state.server) state.zone
leaf_is_plain state (NoAddress ns) = stop (codes "no-address") (name_text state.name) (name_text ns)

leaf_is_deep : (state : State) (leaf : Leaf) → depth (leaf_value state leaf) ≤ 2
leaf_is_deep state (Answer rdata) = omega (arith, answer_deep (codes "answer") (name_text state.name) (name_text state.server) rdata state.zone)
leaf_is_deep state NoData = omega (arith, three_deep (codes "nodata") (name_text state.name) (name_text state.server) state.zone)
leaf_is_deep state NxDomain = omega (arith, three_deep (codes "nxdomain") (name_text state.name) (name_text state.server) state.zone)
leaf_is_deep state Outside = omega (arith, three_deep (codes "outside") (name_text state.name) (name_text state.server) state.zone)
leaf_is_deep state (Unhosted ns) = omega arith
leaf_is_deep state (Lame ns) = omega arith
leaf_is_deep state (Limit place) = omega (arith, four_deep (codes "limit") (name_text state.name) (name_text place.owner) (name_text state.server) state.zone)
leaf_is_deep state (Overlong place) = omega (arith, four_deep (codes "overlong") (name_text state.name) (name_text place.owner) (name_text state.server) state.zone)
leaf_is_deep state (NoAddress ns) = omega arith

-- ---- walks

end_is_plain : (leaf : Leaf) (states : List State) → ArePlain (json_items (end_values leaf states))
end_is_plain leaf [] = tt
end_is_plain leaf (state ∷ []) = (leaf_is_plain state leaf, tt)
end_is_plain leaf (state ∷ next ∷ states) = end_is_plain leaf (next ∷ states)

end_is_deep : (leaf : Leaf) (states : List State) → items_depth (json_items (end_values leaf states)) ≤ 2
end_is_deep leaf [] = omega arith
end_is_deep leaf (state ∷ []) = omega (arith, leaf_is_deep state leaf)
end_is_deep leaf (state ∷ next ∷ states) = end_is_deep leaf (next ∷ states)

steps_are_plain : (leaf : Leaf) (all states : List State) (hops : List Hop) → ArePlain (json_items (hop_values states hops ++ end_values leaf all))
steps_are_plain leaf all [] hops = end_is_plain leaf all
steps_are_plain leaf all (state ∷ states) [] = end_is_plain leaf all
steps_are_plain leaf all (state ∷ states) (hop ∷ hops) = (hop_is_plain state hop, steps_are_plain leaf all states hops)

hop_is_deep : (state : State) (hop : Hop) → depth (hop_value state hop) ≤ 2
hop_is_deep state (Refer cut) = omega arith
hop_is_deep state (Rewrite place by_dname to) = omega arith

steps_are_deep : (leaf : Leaf) (all states : List State) (hops : List Hop) → items_depth (json_items (hop_values states hops ++ end_values leaf all)) ≤ 2
steps_are_deep leaf all [] hops = end_is_deep leaf all
steps_are_deep leaf all (state ∷ states) [] = end_is_deep leaf all
steps_are_deep leaf all (state ∷ states) (hop ∷ hops) = omega (arith, hop_is_deep state hop, steps_are_deep leaf all states hops)

-- the value of a walk is plain
pub walk_is_plain : (walk : Walk) → IsPlain (walk_value walk)
walk_is_plain walk = steps_are_plain walk.leaf walk.states walk.states walk.hops

-- the value of a walk nests three deep at most
pub walk_is_deep : (walk : Walk) → depth (walk_value walk) ≤ 3
walk_is_deep walk = omega (arith, steps_are_deep walk.leaf walk.states walk.states walk.hops)

-- ---- entries

fault_is_plain : (fault : Fault) → IsPlain (fault_value fault)
fault_is_plain (faults.Lame cut) = ((refl, (refl, (refl, tt))), tt, ((refl, (refl, tt)), tt, ((refl, tt), tt, (tt, tt, tt))))
fault_is_plain (faults.Differs cut) = ((refl, (refl, (refl, tt))), tt, ((refl, (refl, tt)), tt, ((refl, tt), tt, (tt, tt, tt))))
fault_is_plain (faults.NoGlue cut) = ((refl, (refl, (refl, tt))), tt, ((refl, (refl, tt)), tt, ((refl, tt), tt, (tt, tt, tt))))
fault_is_plain (faults.GlueDiffers cut) = ((refl, (refl, (refl, tt))), tt, ((refl, (refl, tt)), tt, ((refl, tt), tt, (tt, tt, tt))))
fault_is_plain (faults.Cyclic cut) = ((refl, (refl, (refl, tt))), tt, ((refl, (refl, tt)), tt, ((refl, tt), tt, (tt, tt, tt))))
fault_is_plain (faults.Limit place) = ((refl, (refl, tt)), tt, ((refl, tt), tt, (tt, tt, tt)))
fault_is_plain (faults.Blackhole place) = ((refl, (refl, tt)), tt, ((refl, tt), tt, (tt, tt, tt)))
fault_is_plain (faults.Answers class rtype) = ((refl, (refl, tt)), tt, ((refl, tt), tt, (tt, tt, tt)))
fault_is_plain (faults.Overlong place) = ((refl, (refl, tt)), tt, ((refl, tt), tt, (tt, tt, tt)))
fault_is_plain (faults.NoAddress cut) = ((refl, (refl, (refl, tt))), tt, ((refl, (refl, tt)), tt, ((refl, tt), tt, (tt, tt, tt))))

fault_is_deep : (fault : Fault) → depth (fault_value fault) ≤ 1
fault_is_deep (faults.Lame cut) = omega arith
fault_is_deep (faults.Differs cut) = omega arith
fault_is_deep (faults.NoGlue cut) = omega arith
fault_is_deep (faults.GlueDiffers cut) = omega arith
fault_is_deep (faults.Cyclic cut) = omega arith
fault_is_deep (faults.Limit place) = omega arith
fault_is_deep (faults.Blackhole place) = omega arith
fault_is_deep (faults.Answers class rtype) = omega arith
fault_is_deep (faults.Overlong place) = omega arith
fault_is_deep (faults.NoAddress cut) = omega arith

-- the value of an entry is plain
pub entry_is_plain : (entry : ReportEntry) → IsPlain (entry_value entry)
entry_is_plain entry = ((refl, (refl, (refl, (refl, (refl, tt))))), tt, ((refl, (refl, (refl, (refl, tt)))), fault_is_plain entry.seen.fault, ((refl, (refl, (refl, tt))), tt, ((refl, (refl, tt)), tt, ((refl, tt), tt, (tt, each_plain walk_value walk_is_plain entry.walks, tt))))))

-- the value of an entry nests five deep at most
pub entry_is_deep : (entry : ReportEntry) → depth (entry_value entry) ≤ 5
entry_is_deep entry = omega (arith, fault_is_deep entry.seen.fault, each_deep walk_value 3 walk_is_deep entry.walks)

-- ---- the report

-- the value of a report whose numbers take 64 bits is plain
pub report_is_plain : (report : Report) → report.classes < 2 ^ 64 → report.names < 2 ^ 64 → report.rewrites < 2 ^ 64 → IsPlain (report_value report)
report_is_plain report classes names rewrites = ((refl, (refl, (refl, tt))), classes, ((refl, (refl, tt)), each_plain entry_value entry_is_plain report.entries, ((refl, tt), names, (tt, rewrites, tt))))

-- the value of a report nests seven deep at most
pub report_is_deep : (report : Report) → depth (report_value report) ≤ 7
report_is_deep report = omega (arith, each_deep entry_value 5 entry_is_deep report.entries)

-- the value of a report has no number with a fraction
pub report_no_float : (report : Report) → has_float (report_value report) ≡ false
report_no_float report = rw (items_no_float (json_items (map entry_value report.entries)) (each_plain entry_value entry_is_plain report.entries)) refl

-- ---- the answer of `ask`

-- the value of an answer of `ask` is plain
pub ask_is_plain : (name : Labels) (rtype : RrType) (walks : List Walk) → IsPlain (ask_value name rtype walks)
ask_is_plain name rtype walks = ((refl, (refl, tt)), tt, ((refl, tt), tt, (tt, each_plain walk_value walk_is_plain walks, tt)))

-- the value of an answer of `ask` nests seven deep at most
pub ask_is_deep : (name : Labels) (rtype : RrType) (walks : List Walk) → depth (ask_value name rtype walks) ≤ 7
ask_is_deep name rtype walks = omega (arith, each_deep walk_value 3 walk_is_deep walks)

-- the value of an answer of `ask` has no number with a fraction
pub ask_no_float : (name : Labels) (rtype : RrType) (walks : List Walk) → has_float (ask_value name rtype walks) ≡ false
ask_no_float name rtype walks = no_float (ask_value name rtype walks) (ask_is_plain name rtype walks)

-- ---- what checks tell

site_is_plain : (told : SiteFindings) → IsPlain (site_value told)
site_is_plain told = ((refl, tt), each_plain values.string (λ line. tt) told.findings, (tt, tt, tt))

site_is_deep : (told : SiteFindings) → depth (site_value told) ≤ 2
site_is_deep told = omega (arith, each_deep values.string 0 (λ line. omega arith) told.findings)

-- the value of what checks tell is plain
pub sites_are_plain : (told : List SiteFindings) → IsPlain (sites_value told)
sites_are_plain told = (tt, each_plain site_value site_is_plain told, tt)

-- the value of what checks tell nests seven deep at most
pub sites_are_deep : (told : List SiteFindings) → depth (sites_value told) ≤ 7
sites_are_deep told = omega (arith, each_deep site_value 2 site_is_deep told)

-- the value of what checks tell has no number with a fraction
pub sites_no_float : (told : List SiteFindings) → has_float (sites_value told) ≡ false
sites_no_float told = no_float (sites_value told) (sites_are_plain told)

-- the value of a scope's report whose numbers take 64 bits, with what checks tell, is plain
pub scope_is_plain : (report : Report) (name : Labels) (told : List SiteFindings) → report.classes < 2 ^ 64 → report.names < 2 ^ 64 → report.rewrites < 2 ^ 64
    → IsPlain (scope_value report name told)
scope_is_plain report name told classes names rewrites =
    ((refl, (refl, (refl, (refl, (refl, tt))))), classes, ((refl, (refl, (refl, (refl, tt)))), each_plain entry_value entry_is_plain report.entries, ((refl, (refl, (refl, tt))), names, ((refl, (refl, tt)), rewrites, ((refl, tt), tt, (tt, each_plain site_value site_is_plain told, tt))))))

-- the value of a scope's report, with what checks tell, nests seven deep at most
pub scope_is_deep : (report : Report) (name : Labels) (told : List SiteFindings) → depth (scope_value report name told) ≤ 7
scope_is_deep report name told = omega (arith, each_deep entry_value 5 entry_is_deep report.entries, each_deep site_value 2 site_is_deep told)

-- the value of a scope's report, with what checks tell, has no number with a fraction
pub scope_no_float : (report : Report) (name : Labels) (told : List SiteFindings) → has_float (scope_value report name told) ≡ false
scope_no_float report name told =
    rw (
      items_no_float (json_items (map entry_value report.entries)) (each_plain entry_value entry_is_plain report.entries),
      items_no_float (json_items (map site_value told)) (each_plain site_value site_is_plain told),
    ) refl
