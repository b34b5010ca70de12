-- Targets of records by which no host is found: names that MX, SRV, NS and PTR records give to a host.
use Rattle.std.specs.Prelude.{ℕ, Bool, true, false, ◌&&◌, ◌||◌, not, List, [], ◌∷◌, ◌++◌, length, codes, Option, Some, None, if◌then◌else◌, ◌==◌}
use Rattle.std.specs.List.{flat_map}
use Rattle.std.specs.Option.{option_map_or}
use Rattle.dns_data.specs.DataText.{separated}
use Rattle.dns_data.specs.Name.{Labels}
use Rattle.dns_data.specs.Rdata.{has_type, octets_eq}
use Rattle.dns_data.specs.Spelling.{name_text}
use Rattle.dns_data.specs.declared.rdata.Rdata.{Rdata}
use Rattle.dns_data.specs.declared.rdata.Rdata.TheVariants.{Mx, Srv, Ns, Ptr}
use Rattle.dns_data.specs.declared.rdata.Rr.{Rr}
use Rattle.dns_data.specs.declared.rr_type.RrType.TheVariants as types
use Rattle.net_model.specs.declared.config.Config.{Config}
use Rattle.net_model.specs.declared.config.Zone.{Zone}
use Rattle.net_model.specs.Nearest.{held_zone}
use Rattle.config_load.specs.declared.loaded.Loaded.{Loaded}
use Rattle.config_load.specs.declared.loaded.RowFiles.{RowFiles}
use Rattle.run_endings.specs.declared.ending.Ending.{Ending}
use Rattle.zone_cuts.specs.Cuts.{has_servers}
use Rattle.name_ends.specs.Ends.{is_alias, only_dead}
use Rattle.name_ends.specs.declared.ends.NameEnds.{NameEnds}
use Rattle.name_ends.specs.declared.ends.TypeEnds.{TypeEnds}
use Rattle.map_run.specs.Asked.{GivenByEnds}
use Rattle.map_run.specs.Lines.{line_of}
use Rattle.map_run.specs.Records.{record_columns}
use Rattle.map_run.specs.declared.lines.Line.{Line}

-- ---- which targets are looked at

-- the name is at or below in-addr.arpa. or ip6.arpa. (RFC 1035 section 3.5, RFC 3596 section 2.5)
abbrev pub is_reverse : Labels → Bool
is_reverse (top ∷ next ∷ below) = octets_eq top (codes "arpa") && (octets_eq next (codes "in-addr") || octets_eq next (codes "ip6"))
is_reverse name = false

-- the host of a mail exchange or a service; the root says that there is none (RFC 7505 section 3, RFC 2782)
abbrev pub host_of : Labels → Option Labels
host_of name = if length name == 0 then None else Some name

-- The target of a record of a zone that is looked at, by its owner and data: the host of a mail exchange and of a service,
-- that of a pointer in a reverse zone, and that of a name server of the origin or of a zone cut (RFC 1035 sections 3.3.9,
-- 3.3.11 and 3.3.12, RFC 2782).
abbrev pub target_in : Zone → Labels → Rdata → Option Labels
target_in zone owner (Mx preference exchange) = host_of exchange
target_in zone owner (Srv priority weight port target) = host_of target
target_in zone owner (Ns target) = if has_servers zone owner then Some target else None
target_in zone owner (Ptr target) = if is_reverse zone.origin then Some target else None
target_in zone owner rdata = None

-- ---- how the walks of a target end

-- the word of a kind of end, if some walk ends so
abbrev pub word_if : Bool → List ℕ → List (List ℕ)
word_if some word = if some then word ∷ [] else []

-- the words of the kinds of ends, each with whether some walk ends so, in the order in which they stand
abbrev pub end_kinds : TypeEnds → List (Bool × List ℕ)
end_kinds ends =
    (ends.answer, codes "answer") ∷ (ends.no_data, codes "nodata") ∷ (ends.no_name, codes "nxdomain") ∷ (ends.outside, codes "outside")
    ∷ (ends.unhosted, codes "unhosted") ∷ (ends.lame, codes "lame") ∷ (ends.no_address, codes "no-address") ∷ (ends.limit, codes "limit")
    ∷ (ends.overlong, codes "overlong") ∷ []

-- the words of the kinds of ends that some walk has, with a comma between: as `ask` has them
abbrev pub kinds_text : TypeEnds → List ℕ
kinds_text ends = separated (codes ",") (flat_map (λ one. word_if one.0 one.1) (end_kinds ends))

-- the ends of the walks of a type, or that there are more walks than are followed
abbrev pub type_ends_text : Option TypeEnds → List ℕ
type_ends_text None = codes "too many walks"
type_ends_text (Some ends) = kinds_text ends

-- no walk of a type is known that ends otherwise than in no data or in no such name
abbrev pub seems_dead : Option TypeEnds → Bool
seems_dead None = true
seems_dead (Some ends) = only_dead ends

-- the name leads nowhere: of both types each walk ends in no data or in no such name, or there are more than are followed
abbrev pub leads_nowhere : NameEnds → Bool
leads_nowhere ends = seems_dead ends.four && seems_dead ends.six

-- some walk ends in no data or in no such name
abbrev pub ends_dead : TypeEnds → Bool
ends_dead ends = ends.no_data || ends.no_name

-- of both types no walk ends in an answer, and some walk ends in no data or in no such name
abbrev pub are_partly_dead : Option TypeEnds → Option TypeEnds → Bool
are_partly_dead (Some four) (Some six) = not (four.answer || six.answer) && (ends_dead four || ends_dead six)
are_partly_dead four six = false

-- some walk that leads out of what is configured may find the name, and none inside does
abbrev pub leads_partly : NameEnds → Bool
leads_partly ends = not (leads_nowhere ends) && are_partly_dead ends.four ends.six

-- the data are a pointer
abbrev pub is_pointer : Rdata → Bool
is_pointer rdata = has_type types.Ptr rdata

-- the data name a name server
abbrev pub is_name_server : Rdata → Bool
is_name_server rdata = has_type types.Ns rdata

-- ---- the lines

-- the columns of a line before its word: those of the record, the target, the ends of its walks of type A and of type AAAA
abbrev pub target_columns : RowFiles → Rr → Labels → NameEnds → List (List ℕ)
target_columns row rr target ends = record_columns row rr ++ name_text target ∷ type_ends_text ends.four ∷ type_ends_text ends.six ∷ []

-- the line of a word, if it holds
abbrev pub target_line : Bool → Bool → List (List ℕ) → List ℕ → List Line
target_line holds counts columns word = if holds then line_of counts (columns ++ word ∷ []) ∷ [] else []

-- the lines of a record and its target. No name server may be an alias (RFC 2181 section 10.3); of a mail exchange and a
-- service the line doesn't count (RFC 2782).
abbrev pub target_lines : RowFiles → Rr → Labels → NameEnds → List Line
target_lines row rr target ends =
    target_line (leads_nowhere ends) true (target_columns row rr target ends) (codes "nowhere")
    ++ (target_line (leads_partly ends) false (target_columns row rr target ends) (codes "partly")
    ++ target_line (is_alias ends && not (is_pointer rr.rdata)) (is_name_server rr.rdata) (target_columns row rr target ends) (codes "alias"))

-- the lines of a record of a row's zone
abbrev pub record_lines : (Labels → NameEnds) → RowFiles → Zone → Rr → List Line
record_lines ends row zone rr = option_map_or (λ target. target_lines row rr target (ends target)) (target_in zone rr.owner rr.rdata) []

-- the lines of a row's records
abbrev pub row_lines : (Labels → NameEnds) → Config → RowFiles → List Line
row_lines ends config row = option_map_or (λ zone. flat_map (record_lines ends row zone) zone.rrs) (held_zone config row.server row.origin) []

-- the lines of all records, in the order of rows, by how the walks of each name end
abbrev pub targets_of : Loaded → (Labels → NameEnds) → List Line
targets_of all ends = flat_map (row_lines ends all.config) all.rows

-- what `targets` gives
abbrev pub IsTargets : Loaded → Ending → Type 0
IsTargets all ending = GivenByEnds all.config (targets_of all) ending
