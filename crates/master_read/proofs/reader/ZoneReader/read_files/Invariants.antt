-- What is left pauses at what the texts gave before, and with each file that is left fewer lie around.
use Rattle.std.proofs.Common.{◌≡◌, ℕ, List, length}
use Rattle.dns_data.specs.Name.{Labels}
use Rattle.master_read.specs.Steps.{IsPausing}
use Rattle.master_read.proofs.reader.ZoneReader.read_files.Given as goal

abbrev pub invariant-loop-self : goal.invariant-loop-self
invariant-loop-self l = record {
  pauses : (origin : Labels) (texts : List (List ℕ)) → IsPausing l.initial.self origin texts l.initial.self.file.entries.items
      → IsPausing l.self origin texts l.self.file.entries.items;
  same : l.self ≡ record l.initial.self { file = l.self.file; around = l.self.around; records = l.self.records };
}

abbrev pub decreases-loop-self : goal.decreases-loop-self
decreases-loop-self l = length l.self.around
