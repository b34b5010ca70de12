use Rattle.std.proofs.Common.{string_bytes, ◌∙◌}
use Rattle.io_edges.specs.MemoryFiles.{with_octets}
use Rattle.io_edges.proofs.FilesByName.{files_by_name-update}
use Rattle.io_edges.proofs.named_files.NamedFiles.place.Goals as goal

pub returns-clause-ok : goal.returns-clause-ok
returns-clause-ok c =
    files_by_name-update (string_bytes c.in_ok-name.name) (record { octets = c.args.octets; failures = c.args.failures }) c.self.inside.files c.insert.new.self c.in_ok-insert.ensures.updates
    ∙ (λ i. with_octets (c.self.view_is i) (c.in_ok-name.ensures.ok i) c.args.octets c.args.failures)
