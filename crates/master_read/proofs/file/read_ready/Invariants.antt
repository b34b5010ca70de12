-- What was held is what was read and what is held, and with each entry less is.
use Rattle.std.proofs.Common.{◌≡◌, ℕ, List, ◌++◌, length}
use Rattle.master_lex.specs.declared.entry.Entry.{Entry}
use Rattle.master_read.specs.ZoneText.{Include, with_entries}
use Rattle.master_read.proofs.file.read_ready.Given as goal

abbrev pub invariant-loop-entry : goal.invariant-loop-entry
invariant-loop-entry l =
    (include : Include) (behind : List Entry) (texts : List (List ℕ))
    → with_entries include l.room l.file (l.initial.entries.items ++ behind) (record { records = l.initial.records; texts = texts })
    ≡ with_entries include l.room l.file (l.entries.items ++ behind) (record { records = l.records; texts = texts })

abbrev pub decreases-loop-entry : goal.decreases-loop-entry
decreases-loop-entry l = length l.entries.items
