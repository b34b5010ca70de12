-- So far the text has the rows of the first zones.
use Rattle.std.proofs.Common.{◌≡◌, ◌++◌, codes, flat_map}
use Rattle.std.specs.List.{range_with_len}
use Rattle.std.specs.String.{string_bytes}
use Rattle.zone_maker.specs.Drill.{meta_row}
use Rattle.zone_maker.proofs.texts.meta_text.Given as goal

abbrev pub invariant-loop-i : goal.invariant-loop-i
invariant-loop-i l =
    string_bytes l.text
    ≡ codes "{\"TopNameServers\":[\"a.top.\"],\"ZoneFiles\":[{\"FileName\":\"root.zone\",\"NameServer\":\"a.top.\"}"
    ++ flat_map meta_row (range_with_len 0 l.i)
