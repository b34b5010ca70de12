use Rattle.std.proofs.Common.{◌++◌, ◌∙◌, List, ℕ, ap}
use Rattle.std.specs.String.{string_bytes}
use Rattle.part_texts.proofs.TextWritten.{next_listed}
use Rattle.part_texts.proofs.writing.put_entries.Goals as goal

pub loop-i-preserved : goal.loop-i-preserved
loop-i-preserved c =
    next_listed _ (string_bytes c.loop-i.text) (string_bytes c.push_str-in-loop-i.new.self) (string_bytes c.put_entry.new.text) c.args.entries.now c.loop-i.i c.index-entries-i.result
    c.loop-i-test.true c.index-entries-i.is c.loop-i.invariant
    (c.in_ok-push_str-2.ensures.bytes ∙ ap (λ (t : List ℕ). string_bytes c.loop-i.text ++ t) c.comma_before.ensures) c.in_ok-put_entry.ensures
