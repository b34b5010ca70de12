use Rattle.std.proofs.Common.{rules, inr, ap}
use Rattle.io_edges.proofs.Memory.{told_by-after_call}
use Rattle.io_edges.proofs.memory_files.MemoryFilesFiles.read.Goals as goal

pub returns-in_default-clause-after : goal.returns-in_default-clause-after
returns-in_default-clause-after c = search rules

pub returns-in_default-clause-same_told : goal.returns-in_default-clause-same_told
returns-in_default-clause-same_told c =
    told_by-after_call c.args.self.now _ c.args.name.now (returns-in_default-clause-after c)

pub returns-in_default-clause-stays : goal.returns-in_default-clause-stays
returns-in_default-clause-stays c name =
    inr (ap (λ told. told name) (returns-in_default-clause-same_told c))

pub returns-in_default-clause-others : goal.returns-in_default-clause-others
returns-in_default-clause-others c other _ =
    ap (λ told. told other) (returns-in_default-clause-same_told c)
