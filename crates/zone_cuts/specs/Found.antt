-- For the code alone, no public clause cites it: NS records by their owner and the name server that they name.
use Rattle.std.specs.Prelude.{◌≡◌, List, ◌∷◌, [], option_map}
use Rattle.std.specs.BTreeMap as map
use Rattle.std.specs.Cmp.Lexicographic.{slice_cmp}
use Rattle.std.specs.List.{find}
use Rattle.dns_data.specs.Name.{Labels, name_cmp}
use Rattle.dns_data.specs.declared.rdata.Rr.{Rr}
use Rattle.zone_cuts.specs.Cuts.{is_ns_of}
use denote.Bor.{Bor}

-- the map gives for an owner and a name server the first NS record
abbrev pub FindsRecords : List Rr → map.BTreeMap (List Labels) (Bor Rr) → Type 0
FindsRecords rrs found =
    (owner ns : Labels) → option_map (λ rr. rr.now) (map.get (slice_cmp name_cmp) found (owner ∷ ns ∷ [])) ≡ find (is_ns_of owner ns) rrs
