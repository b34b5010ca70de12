-- The first entry was read, or has a fault.
use Rattle.std.proofs.Common.{◌++◌}
use Rattle.master_read.proofs.EntryFaults.{fault_told}
use Rattle.master_read.proofs.Reading.{first_read, first_fault}
use Rattle.master_read.proofs.file.read_ready.Goals as goal

pub returns-in-Err-clause-fault : goal.returns-in-Err-clause-fault
returns-in-Err-clause-fault c include behind texts =
    rw (c.loop-entry.invariant include behind texts, c.in-Some.ensures.some.0, c.at.ensures)
    (first_fault include c.args.room c.args.file c.in-Some.entry (c.pop_plain.new.entries.items ++ behind) c.loop-entry.records texts c.in-Err.fault c.in-Err.ensures.fault)

pub returns-in-Err-clause-tells : goal.returns-in-Err-clause-tells
returns-in-Err-clause-tells c =
    rw c.at.ensures (fault_told c.args.room c.args.file c.in-Some.entry.line c.loop-entry.records c.in-Some.entry c.in-Err.fault c.in-Err.ensures.fault)

pub loop-entry-preserved : goal.loop-entry-preserved
loop-entry-preserved c include behind texts =
    rw (c.loop-entry.invariant include behind texts, c.in-Some.ensures.some.0)
    (first_read include c.args.room c.args.file c.in-Some.entry (c.pop_plain.new.entries.items ++ behind) c.loop-entry.records c.read.new.self texts c.in_default-read.ensures.ok)
