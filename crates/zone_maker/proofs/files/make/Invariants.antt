-- So far the files are the metadata, the root zone and the first zones.
use Rattle.std.proofs.Common.{◌≡◌, [], ◌∷◌, codes, map}
use Rattle.std.specs.List.{range_with_len}
use Rattle.io_edges.specs.MemoryFiles.{no_files}
use Rattle.zone_maker.specs.Drill.{with_files, meta_text, root_text, zone_file, made_zone_text}
use Rattle.zone_maker.proofs.files.make.Given as goal

abbrev pub invariant-loop-i : goal.invariant-loop-i
invariant-loop-i l =
    l.files
    ≡ with_files (no_files [])
    ((codes "meta.json", meta_text l.zones) ∷ (codes "root.zone", root_text l.zones)
    ∷ map (λ i. (zone_file i, made_zone_text l.zones i)) (range_with_len 0 l.i))
