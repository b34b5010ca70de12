-- The faults of delegations that need no walk, and name servers that no query finds: at the zone cuts of each zone and at
-- its origin.
use Rattle.std.specs.Prelude.{ℕ, Bool, true, false, ◌&&◌, ◌||◌, not, List, [], ◌∷◌, ◌++◌, codes, is_some, is_none, if◌then◌else◌}
use Rattle.std.specs.List.{flat_map}
use Rattle.std.specs.Option.{option_map_or}
use Rattle.dns_data.specs.Name.{Labels, is_among}
use Rattle.dns_data.specs.Spelling.{name_text}
use Rattle.net_model.specs.declared.config.Config.{Config}
use Rattle.net_model.specs.declared.config.Zone.{Zone}
use Rattle.net_model.specs.declared.place.Cut.{Cut}
use Rattle.net_model.specs.Nearest.{held_zone, is_configured, is_top}
use Rattle.net_model.specs.Zone.{ns_names}
use Rattle.zone_lookup.specs.Sides.{addresses_differ, zones_differ}
use Rattle.zone_lookup.specs.Sound.{wants_glue}
use Rattle.config_load.specs.declared.loaded.Loaded.{Loaded}
use Rattle.config_load.specs.declared.loaded.RowFiles.{RowFiles}
use Rattle.run_endings.specs.declared.ending.Ending.{Ending}
use Rattle.zone_cuts.specs.Cuts.{cuts, is_glued, ns_record}
use Rattle.name_ends.specs.Ends.{is_dead}
use Rattle.name_ends.specs.declared.ends.NameEnds.{NameEnds}
use Rattle.map_run.specs.Asked.{GivenByEnds}
use Rattle.map_run.specs.Copies.{is_first_copy}
use Rattle.map_run.specs.Lines.{by_earlier, if_so, line_of, place_columns}
use Rattle.map_run.specs.declared.lines.Line.{Line}
use Rattle.map_run.specs.declared.ns_lines.NsWord.{NsWord}
use Rattle.map_run.specs.declared.ns_lines.NsWord.TheVariants.{Lame, Differs, NoGlue, GlueDiffers, Dead, GlueOnly}

-- the name server of a delegation of a row's zone, or one at its origin
abbrev pub place_at : RowFiles → Zone → Labels → Labels → Cut
place_at row zone cut ns = record { server = row.server; zone = zone.origin; cut = cut; ns = ns }

-- the word for a name server
abbrev pub ns_text : NsWord → List ℕ
ns_text Lame = codes "lame"
ns_text Differs = codes "differs"
ns_text NoGlue = codes "no-glue"
ns_text GlueDiffers = codes "glue-differs"
ns_text Dead = codes "dead"
ns_text GlueOnly = codes "glue-only"

-- a name server counts for each word but the last
abbrev pub ns_counts : NsWord → Bool
ns_counts GlueOnly = false
ns_counts word = true

-- the columns of a line: a word, the server, the zone, the cut, a name server, and the file and the line of the NS record
-- that names another
abbrev pub ns_columns : List ℕ → RowFiles → Zone → Labels → Labels → Labels → List (List ℕ)
ns_columns word row zone cut ns other =
    word ∷ name_text row.server ∷ name_text row.origin ∷ name_text cut ∷ name_text ns ∷ place_columns row (ns_record zone cut other)

-- the line of a word at a name server of a name in a row's zone, if it is so, with the place of the NS record that names it
abbrev pub ns_line : RowFiles → Zone → Labels → Labels → Bool → NsWord → List Line
ns_line row zone cut ns holds word = if holds then line_of (ns_counts word) (ns_columns (ns_text word) row zone cut ns ns) ∷ [] else []

-- the name server is configured, and holds no zone whose origin is the name (RFC 1912 section 2.8)
abbrev pub is_lame : Config → Labels → Labels → Bool
is_lame config cut ns = is_configured config ns && is_none (held_zone config ns cut)

-- The lines of a name server of a zone cut for what both zones hold. They are the faults that a query shows that passes the
-- cut (RFC 1034 sections 4.2.1 and 4.2.2).
unfoldable pub side_lines : Config → RowFiles → Zone → Labels → Labels → List Line
side_lines config row zone cut ns =
    ns_line row zone cut ns (is_lame config cut ns) Lame
    ++ (ns_line row zone cut ns (zones_differ config (place_at row zone cut ns)) Differs
    ++ (ns_line row zone cut ns (wants_glue config (place_at row zone cut ns)) NoGlue
    ++ ns_line row zone cut ns (addresses_differ config (place_at row zone cut ns)) GlueDiffers))

-- The line of a name server of a zone cut that is dead, if it is. One counts that has no glue; one that has some can be
-- asked all the same, and it is the delegated zone that lacks its address.
abbrev pub dead_lines : Bool → RowFiles → Zone → Labels → Labels → List Line
dead_lines dead row zone cut ns =
    ns_line row zone cut ns (dead && not (is_glued zone ns)) Dead ++ ns_line row zone cut ns (dead && is_glued zone ns) GlueOnly

-- the lines of a name server of a zone cut
unfoldable pub at_cut : (Labels → NameEnds) → Config → RowFiles → Zone → Labels → Labels → List Line
at_cut ends config row zone cut ns = side_lines config row zone cut ns ++ dead_lines (is_dead (ends ns)) row zone cut ns

-- the lines of a name server of the origin
abbrev pub at_origin : (Labels → NameEnds) → Config → RowFiles → Zone → Labels → List Line
at_origin ends config row zone ns =
    ns_line row zone zone.origin ns (is_lame config zone.origin ns) Lame
    ++ ns_line row zone zone.origin ns (is_dead (ends ns) && not (is_glued zone ns)) Dead

-- the row's server is asked for names of its zone: it is a top server, or one of the zone's name servers
abbrev pub is_asked : Config → RowFiles → Zone → Bool
is_asked config row zone = is_top config row.server || is_among (ns_names zone zone.origin) row.server

-- the row's server itself holds a zone with the cut as origin, though the cut isn't delegated to it: so it answers from
-- there
abbrev pub is_leftover : Config → RowFiles → Zone → Labels → Bool
is_leftover config row zone cut =
    is_some (held_zone config row.server cut) && not (is_among (ns_names zone cut) row.server) && is_asked config row zone

-- the line of such a cut, at the place of the first of its name servers
abbrev pub leftover_line : RowFiles → Zone → Labels → List Labels → List Line
leftover_line row zone cut [] = []
leftover_line row zone cut (first ∷ names) =
    line_of false (ns_columns (codes "leftover") row zone cut row.server first) ∷ []

-- the lines of a zone cut
abbrev pub cut_lines : (Labels → NameEnds) → Config → RowFiles → Zone → Labels → List Line
cut_lines ends config row zone cut =
    flat_map (at_cut ends config row zone cut) (ns_names zone cut)
    ++ if_so (is_leftover config row zone cut) (leftover_line row zone cut (ns_names zone cut))

-- the lines of a row's zone: those of the origin, if no earlier row's zone is an equal copy, then those of the cuts
abbrev pub zone_lines : (Labels → NameEnds) → Config → Bool → RowFiles → Zone → List Line
zone_lines ends config is_first row zone =
    if_so is_first (flat_map (at_origin ends config row zone) (ns_names zone zone.origin))
    ++ flat_map (cut_lines ends config row zone) (cuts zone)

-- the lines of a row behind others
abbrev pub delegation_lines : (Labels → NameEnds) → Config → List RowFiles → RowFiles → List Line
delegation_lines ends config before row =
    option_map_or (λ zone. zone_lines ends config (is_first_copy config before row) row zone) (held_zone config row.server row.origin) []

-- the lines of all rows' zones, by how the walks of each name end
abbrev pub delegations_of : Loaded → (Labels → NameEnds) → List Line
delegations_of all ends = by_earlier (delegation_lines ends all.config) [] all.rows

-- what `delegations` gives
abbrev pub IsDelegations : Loaded → Ending → Type 0
IsDelegations all ending = GivenByEnds all.config (delegations_of all) ending
