use Rattle.std.proofs.Common.{◌≡◌, ◌++◌, codes, false, take}
use Rattle.std.specs.String.{string_bytes}
use Rattle.part_texts.specs.Writing.{listed}
use Rattle.part_texts.proofs.writing.put_entries.Given as goal

-- the texts of the entries so far are put
abbrev pub invariant-loop-i : goal.invariant-loop-i
invariant-loop-i l = string_bytes l.text ≡ string_bytes l.fn.text ++ (codes ",\"faults\":[" ++ listed false (take l.i l.entries))
