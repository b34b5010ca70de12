-- What both zones of a delegation hold: the one that refers, and the one of the name server with the zone cut as its
-- origin.
use Rattle.std.specs.Prelude.{Bool, false, ◌&&◌, not, List, ◌==◌, length, Option, Some, None}
use lib.Pointwise.{pointwise}
use Rattle.dns_data.specs.Name.{Labels, name_eq, is_prefix}
use Rattle.dns_data.specs.Rdata.{data_eq}
use Rattle.dns_data.specs.declared.rdata.Rdata.{Rdata}
use Rattle.net_model.specs.Nearest.{held_zone}
use Rattle.net_model.specs.Zone.{addresses, ns_names}
use Rattle.net_model.specs.declared.config.Config.{Config}
use Rattle.net_model.specs.declared.config.Zone.{Zone}
use Rattle.net_model.specs.declared.place.Cut.{Cut}

-- lists of names are equal, each beside each
abbrev pub names_eq : List Labels → List Labels → Bool
names_eq a b = pointwise name_eq a b

-- both zones are there, and list other name servers at the cut
abbrev pub sides_differ : Labels → Option Zone → Option Zone → Bool
sides_differ cut None below = false
sides_differ cut (Some above) None = false
sides_differ cut (Some above) (Some below) = not (names_eq (ns_names above cut) (ns_names below cut))

-- the delegated zone lists other name servers than the referring one
abbrev pub zones_differ : Config → Cut → Bool
zones_differ config cut = sides_differ cut.cut (held_zone config cut.server cut.zone) (held_zone config cut.ns cut.cut)

-- both lists have data, and not the same
abbrev pub both_differ : List Rdata → List Rdata → Bool
both_differ above below = not (length above == 0) && not (length below == 0) && not (pointwise data_eq above below)

-- both zones are there, and hold other addresses of the name server
abbrev pub glue_of_sides : Labels → Option Zone → Option Zone → Bool
glue_of_sides ns None below = false
glue_of_sides ns (Some above) None = false
glue_of_sides ns (Some above) (Some below) = both_differ (addresses above ns) (addresses below ns)

-- the name server is at or below the cut, and both zones hold addresses of it, and not the same ones
abbrev pub addresses_differ : Config → Cut → Bool
addresses_differ config cut =
    is_prefix cut.cut cut.ns && glue_of_sides cut.ns (held_zone config cut.server cut.zone) (held_zone config cut.ns cut.cut)
