-- Which zones a part needn't read: those of which it asks nothing but where the origin leaves the held names.
use Rattle.std.specs.Prelude.{Bool, false, not, ◌&&◌, ◌||◌, Option, Some, None}
use Rattle.std.specs.Ordering.{is_lt}
use Rattle.dns_data.specs.Name.{Labels, is_among, is_prefix, name_cmp}
use Rattle.part_names.specs.declared.names.PartNames.{PartNames}
use Rattle.part_checks.specs.Parts.{held_by}

-- a name that ends the part's own names, if there is one, doesn't stand behind this name
abbrev pub ends_before : Option Labels → Labels → Bool
ends_before None name = false
ends_before (Some to) name = not (is_lt (name_cmp name to))

-- a name that begins the part's own names, if there is one, stands behind this name and isn't below it
abbrev pub begins_past : Option Labels → Labels → Bool
begins_past None name = false
begins_past (Some from) name = is_lt (name_cmp name from) && not (is_prefix name from)

-- no name at or below this one is own
abbrev pub is_apart : PartNames → Labels → Bool
is_apart names name = ends_before names.to name || begins_past names.from name

-- no name at or below the origin is own, and none is held
abbrev pub is_skipped : PartNames → Labels → Bool
is_skipped names origin = is_apart names origin && not (is_among (held_by names) origin)
