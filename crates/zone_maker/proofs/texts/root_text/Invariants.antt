-- So far the text has the delegations of the first zones.
use Rattle.std.proofs.Common.{◌≡◌, ◌++◌, codes, flat_map}
use Rattle.std.specs.List.{range_with_len}
use Rattle.std.specs.String.{string_bytes}
use Rattle.zone_maker.specs.Drill.{referral_lines}
use Rattle.zone_maker.proofs.texts.root_text.Given as goal

abbrev pub invariant-loop-i : goal.invariant-loop-i
invariant-loop-i l =
    string_bytes l.text
    ≡ codes "$TTL 60\n. SOA a.top. h.top. 1 2 3 4 5\n. NS a.top.\n" ++ flat_map referral_lines (range_with_len 0 l.i)
