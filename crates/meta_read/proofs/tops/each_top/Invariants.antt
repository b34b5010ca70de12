use Rattle.std.proofs.Common.{◌≡◌, ◌+◌, map, drop}
use Rattle.serde_json.specs.View.{view}
use Rattle.meta_read.specs.Names.{each}
use Rattle.meta_read.specs.Tops.{top_of}
use Rattle.meta_read.proofs.Each.{continued}
use Rattle.meta_read.proofs.tops.each_top.Given as goal

-- the names so far, and then those of the values that are left
abbrev pub invariant-loop-value : goal.invariant-loop-value
invariant-loop-value l =
    each top_of 1 (map view l.values) ≡ continued l.names (each top_of (l.value-index + 1) (map view (drop l.value-index l.values)))
