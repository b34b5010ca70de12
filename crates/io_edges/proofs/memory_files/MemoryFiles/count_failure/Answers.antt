use Rattle.std.proofs.Common.{rules}
use Rattle.io_edges.proofs.Memory.{Rose-after_failure, told_by-after_failure, NoneFell-after_failure}
use Rattle.io_edges.proofs.memory_files.MemoryFiles.count_failure.Goals as goal

pub returns-else-not-count_failure-clause-after :
    goal.returns-else-not-count_failure-clause-after
returns-else-not-count_failure-clause-after c = search rules

pub returns-else-not-count_failure-clause-cause : goal.returns-else-not-count_failure-clause-cause
returns-else-not-count_failure-clause-cause c =
    Rose-after_failure c.args.self.now _ c.args.name.now (returns-else-not-count_failure-clause-after c)

pub returns-else-not-count_failure-clause-same_told :
    goal.returns-else-not-count_failure-clause-same_told
returns-else-not-count_failure-clause-same_told c =
    told_by-after_failure c.args.self.now _ c.args.name.now (returns-else-not-count_failure-clause-after c)

pub returns-else-not-count_failure-clause-never_fall :
    goal.returns-else-not-count_failure-clause-never_fall
returns-else-not-count_failure-clause-never_fall c =
    NoneFell-after_failure c.args.self.now _ c.args.name.now (returns-else-not-count_failure-clause-after c)
