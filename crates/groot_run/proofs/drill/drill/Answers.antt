use Rattle.std.proofs.Common.{◌≡◌, ◌∙◌, ℕ, codes, ap, sym, subst, inl, inr, arith}
use Rattle.std.specs.Prelude.{◌⊎◌}
use Rattle.io_edges.specs.Files.{FilesTold, TellsAll}
use Rattle.io_edges.specs.MemoryFiles.{FilesInMemory}
use Rattle.zone_maker.specs.Drill.{drill}
use Rattle.zone_maker.specs.Source.{drill_told, no_failures, told_of}
use Rattle.zone_maker.proofs.UnfailingFiles.{drill_tells_all}
use Rattle.groot_run.specs.JobEnds.{EndsOverConfig}
use Rattle.run_endings.specs.Endings.{OfReading, no_memory}
use Rattle.groot_line.specs.Program.{usual_names}
use Rattle.groot_line.specs.declared.program.Program.{Program}
use Rattle.groot_run.specs.Outcome.{Drills}
use Rattle.groot_run.specs.Programs.{conf_of}
use Rattle.run_endings.specs.declared.ending.Ending.{Ending}
use Rattle.groot_run.proofs.Endings.{over_config, over_none}
use Rattle.groot_run.proofs.drill.drill.Goals as goal

-- the files told all from the start and no read fails, so the run ends as they give, or memory ran out
unfailing : (program : Program) (zones : ℕ) (made left : FilesInMemory) (ending : Ending) → made ≡ drill zones → (TellsAll (told_of made) → told_of left ≡ told_of made)
    → EndsOverConfig program (codes "meta.json") (Drills (usual_names program) zones) (told_of left) (no_failures made) (no_failures left) ending
    → OfReading (codes "meta.json") (Drills (usual_names program) zones) (conf_of program (codes "meta.json") (drill_told zones)) ending ⊎ (ending ≡ no_memory)
unfailing program zones made left ending is stays (inl gives) =
    let same : told_of left ≡ drill_told zones = stays (subst (λ (files : FilesInMemory). TellsAll (told_of files)) (sym is) (drill_tells_all zones)) ∙ ap told_of is in
    inl (subst (λ (told : FilesTold). OfReading (codes "meta.json") (Drills (usual_names program) zones) (conf_of program (codes "meta.json") told) ending) same gives)
unfailing program zones made left ending is stays (inr (inl (file, failed, comes, rose))) = elim rose [ inl less ↦ absurd (omega (arith, less)) | inr last ↦ absurd (omega (arith, last)) ]
unfailing program zones made left ending is stays (inr (inr ran_out)) = inr ran_out

pub returns-in-Ok-configuration : goal.returns-in-Ok-configuration
returns-in-Ok-configuration g c =
    unfailing c.args.program c.args.zones c.in-Ok.files c.configuration.new.files c.of_config.result c.in-Ok.ensures c.in-Ok-configuration.ensures.from_the_start
    (over_config c.args.program (told_of c.configuration.new.files) (no_failures c.in-Ok.files) (no_failures c.configuration.new.files) (Drills (usual_names c.args.program) c.args.zones) (codes "meta.json")
    c.of_config.result c.in-Ok-configuration.config c.in-Ok-configuration.ensures.ok
    (subst (λ (names : ℕ). Drills names c.args.zones c.in-Ok-configuration.config c.of_config.result ⊎ (c.of_config.result ≡ no_memory)) c.usual_names-names.ensures.is c.of_config.ensures))

pub returns-in-Ok : goal.returns-in-Ok
returns-in-Ok g c =
    unfailing c.args.program c.args.zones c.in-Ok.files c.configuration.new.files c.in-Err-configuration.ending c.in-Ok.ensures c.in-Err-configuration.ensures.from_the_start
    (over_none c.args.program (told_of c.configuration.new.files) (no_failures c.in-Ok.files) (no_failures c.configuration.new.files) (Drills (usual_names c.args.program) c.args.zones) (codes "meta.json")
    c.in-Err-configuration.ending c.in-Err-configuration.ensures.err)
