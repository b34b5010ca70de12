use Rattle.std.proofs.Common.{◌≡◌, ◌⊎◌, ℕ, subst}
use Rattle.groot_line.specs.Program.{usual_names}
use Rattle.run_endings.specs.Endings.{no_memory}
use Rattle.groot_run.specs.Outcome.{Compares, compared_of}
use Rattle.groot_run.proofs.Endings.{over_config, over_none}
use Rattle.groot_run.proofs.same.with_second.Goals as goal

pub returns-in-Ok-clause-cause : goal.returns-in-Ok-clause-cause
returns-in-Ok-clause-cause g c =
    over_config c.args.program (g.F.Files.told c.last_configuration.new.files) (g.F.Files.faults c.args.files.now) (g.F.Files.faults c.last_configuration.new.files)
    (λ config. Compares (usual_names c.args.program) (compared_of c.args.first.now config)) c.args.second.now c.compared.result c.in-Ok.config c.in-Ok.ensures.ok
    (subst (λ (names : ℕ). Compares names (compared_of c.args.first.now c.in-Ok.config) c.compared.result ⊎ (c.compared.result ≡ no_memory)) c.usual_names.ensures.is c.compared.ensures)

pub returns-in-Err-clause-cause : goal.returns-in-Err-clause-cause
returns-in-Err-clause-cause g c =
    over_none c.args.program (g.F.Files.told c.last_configuration.new.files) (g.F.Files.faults c.args.files.now) (g.F.Files.faults c.last_configuration.new.files)
    (λ config. Compares (usual_names c.args.program) (compared_of c.args.first.now config)) c.args.second.now c.in-Err.ending c.in-Err.ensures.err
