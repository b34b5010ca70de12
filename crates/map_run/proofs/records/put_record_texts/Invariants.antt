-- So far the text has the lines of the first records at its end.
use Rattle.std.proofs.Common.{◌≡◌, ◌++◌, take}
use Rattle.std.specs.List.{flat_map}
use Rattle.map_run.specs.Columns.{columns_line}
use Rattle.map_run.specs.Records.{record_columns}
use Rattle.map_run.proofs.records.put_record_texts.Given as goal

abbrev pub invariant-loop-rr : goal.invariant-loop-rr
invariant-loop-rr l = l.text ≡ l.fn.text ++ flat_map (λ rr. columns_line (record_columns l.row rr)) (take l.rr-index l.rrs)
