-- Each record entry is counted once, and only where there is room.
use Rattle.master_read.proofs.Counts.{texts_count}
use Rattle.master_read.proofs.laws.seen_counts_record_entries.Goals as goal

pub returns : goal.returns
returns c = texts_count
