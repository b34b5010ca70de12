-- The entry whose tokens stand in the text is the entry.
use Rattle.std.proofs.Common.{◌≡◌, refl, ◌∙◌}
use Rattle.master_read.proofs.records.Records.read.Goals as goal

pub returns-clause-fault : goal.returns-clause-fault
returns-clause-fault c =
    let is : c.new-entry.result ≡ c.args.entry.now = c.new-entry.ensures ∙ rw (c.deref.ensures.value, c.in_ok-tokens.ensures, c.items-2.ensures) refl in
    rw is at c.read_record.ensures.fault
