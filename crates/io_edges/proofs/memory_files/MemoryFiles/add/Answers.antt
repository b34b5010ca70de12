use Rattle.std.proofs.Common.{rules}
use Rattle.io_edges.proofs.Memory.{failures_of-added}
use Rattle.io_edges.proofs.memory_files.MemoryFiles.add.Goals as goal

pub returns-clause-ok : goal.returns-clause-ok
returns-clause-ok c = search rules

pub returns-clause-err : goal.returns-clause-err
returns-clause-err c = search rules

pub returns-clause-counts : goal.returns-clause-counts
returns-clause-counts c =
    failures_of-added c.put.result _ _ c.args.name.now c.args.bytes.now (returns-clause-ok c) (returns-clause-err c)
