-- For the code alone, no public clause cites it: merged reports as the code holds them.
use Rattle.std.specs.Prelude.{map}
use Rattle.serde_json.specs.Data.{Data}
use Rattle.serde_json.specs.View.{view}
use Rattle.part_form.specs.declared.text.Merged.{Merged}
use Rattle.part_form.specs.Merging.{merged_value}

-- the JSON value of merged reports
abbrev pub held_value : Merged → Data
held_value merged = merged_value merged.classes merged.names merged.rewrites (map (λ entry. view entry.value) merged.entries)
