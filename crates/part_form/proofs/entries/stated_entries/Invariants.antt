use Rattle.std.proofs.Common.{◌≡◌, ◌++◌, drop, map, option_map}
use Rattle.serde_json.specs.View.{view}
use Rattle.part_form.specs.Stated.{entries_stated, entry_of}
use Rattle.part_form.proofs.entries.stated_entries.Given as goal

-- those so far, with what is left
abbrev pub invariant-loop-value : goal.invariant-loop-value
invariant-loop-value l =
    option_map (λ more. map entry_of l.entries ++ more) (entries_stated (map view (drop l.value-index l.values))) ≡ entries_stated (map view l.values)
