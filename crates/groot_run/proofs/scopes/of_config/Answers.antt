use Rattle.std.proofs.Common.{◌≡◌, ◌⊎◌, ℕ, List, subst}
use Rattle.groot_line.specs.Program.{usual_names}
use Rattle.run_endings.specs.Endings.{no_memory}
use Rattle.run_endings.specs.declared.ending.Ending.{Ending}
use Rattle.groot_run.specs.NameList.{names_of}
use Rattle.groot_run.specs.Outcome.{ScopesNames}
use Rattle.groot_run.specs.Programs.{limits_of}
use Rattle.config_load.proofs.ShortFiles.{file_is_short}
use Rattle.groot_run.proofs.Rechecked.{EndsWithin, over_file, over_no_file}
use Rattle.groot_run.proofs.scopes.of_config.Goals as goal

pub of_octets-requires-clause-short : goal.of_octets-requires-clause-short
of_octets-requires-clause-short g c lifetimes outlives =
    file_is_short c.limits_of.result c.args.list.now (g.F.Files.told c.read_file.new.files) c.in-Ok.octets c.items.result.now c.items.ensures c.in-Ok.ensures.gives

pub returns-in-Ok-clause-cause : goal.returns-in-Ok-clause-cause
returns-in-Ok-clause-cause g c =
    let told = g.F.Files.told c.read_file.new.files in
    let before = g.F.Files.faults c.args.files.now in
    let after = g.F.Files.faults c.read_file.new.files in
    let list = c.args.list.now in
    let of : ℕ → List ℕ → Ending → Type 0 = λ limit octets. ScopesNames limit list c.args.config.now (names_of octets) in
    rw (c.let_go_of_all.ensures.told, c.let_go_of_all.ensures.faults)
    (subst (λ (limit : ℕ). EndsWithin told before after list (of limit) c.of_octets.result (limits_of c.args.program)) c.usual_names-limit.ensures.is
    (subst (EndsWithin told before after list (of c.usual_names-limit.result) c.of_octets.result) c.limits_of.ensures
    (over_file c.limits_of.result told before after list c.in-Ok.octets (of c.usual_names-limit.result) c.of_octets.result c.in-Ok.ensures.gives
    (subst (λ (octets : List ℕ). of c.usual_names-limit.result octets c.of_octets.result ⊎ (c.of_octets.result ≡ no_memory)) c.items.ensures c.of_octets.ensures))))

pub returns-in-Err-clause-cause : goal.returns-in-Err-clause-cause
returns-in-Err-clause-cause g c =
    let told = g.F.Files.told c.read_file.new.files in
    let before = g.F.Files.faults c.args.files.now in
    let after = g.F.Files.faults c.read_file.new.files in
    let list = c.args.list.now in
    let of : List ℕ → Ending → Type 0 = λ octets. ScopesNames (usual_names c.args.program) list c.args.config.now (names_of octets) in
    subst (EndsWithin told before after list of c.not_loaded.result) c.limits_of.ensures
    (over_no_file c.limits_of.result told before after list of c.in-Err.fault c.not_loaded.result c.in-Err.ensures.gives c.in-Err.ensures.order
    c.in-Err.ensures.cause c.not_loaded.ensures)
