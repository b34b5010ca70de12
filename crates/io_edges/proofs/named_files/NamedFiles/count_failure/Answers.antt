use Rattle.std.proofs.Common.{is_some, sym, ap, ◌∙◌}
use Rattle.std.specs.FinMap as map
use Rattle.std.specs.Option.{option_map}
use Rattle.io_edges.specs.MemoryFiles.{with_failure}
use Rattle.io_edges.specs.NamedFiles.{files_by_name, stored}
use Rattle.io_edges.proofs.FilesByName.{get-files_by_name, changed-with_failure, unchanged-with_failure}
use Rattle.io_edges.proofs.named_files.NamedFiles.count_failure.Goals as goal
use Rattle.io_edges.proofs.named_files.NamedFiles.count_failure.Goals.{in-Some, in-None}

pub returns-clause-held : goal.returns-clause-held
returns-clause-held c =
    let name = c.args.name.now in
    let seen = sym (get-files_by_name c.self.inside.files name) ∙ ap (λ files. map.get files name) c.self.view_is in
    elim c.match-get_mut.branch [
      | in-Some w ↦ w.result-is ∙ ap is_some (ap (option_map stored) w.in-Some.ensures.value ∙ seen)
      | in-None w ↦ w.result-is ∙ ap is_some (ap (option_map stored) w.in-None.ensures.value ∙ seen)
    ]

pub returns-clause-counted : goal.returns-clause-counted
returns-clause-counted c =
    let name = c.args.name.now in
    let files = c.self.inside.files in
    elim c.match-get_mut.branch [
      | in-Some w ↦
          let failures = w.raise-file.result in
          ap (λ inside. files_by_name inside.files.entries) w.self-inside-is
          ∙ changed-with_failure name w.in-Some.file.now failures files (c.get_mut.follows.lender (record { octets = w.in-Some.file.now.octets; failures = failures })) w.in-Some.ensures.value w.raise-file.ensures (c.get_mut.follows.holds (record { octets = w.in-Some.file.now.octets; failures = failures }))
          ∙ ap (λ seen. with_failure seen name) c.self.view_is
      | in-None w ↦
          ap (λ inside. files_by_name inside.files.entries) w.self-inside-is
          ∙ ap (λ left. files_by_name left.entries) c.get_mut.follows.holds-at-none
          ∙ unchanged-with_failure name files w.in-None.ensures.value
          ∙ ap (λ seen. with_failure seen name) c.self.view_is
    ]
