use Rattle.std.proofs.Common.{◌≡◌, ℕ, List, Result, Err, Bor, map, sym, subst, inl, inr, refl}
use Rattle.std.specs.Prelude.{◌⊎◌}
use Rattle.groot_line.proofs.StatedNumbers.{job_in_range}
use Rattle.groot_line.specs.Job.{job_asked}
use Rattle.groot_line.specs.declared.fault.LineFault.{LineFault}
use Rattle.groot_line.specs.declared.fault.LineFault.TheVariants.{NoMemory, Usage}
use Rattle.groot_line.specs.declared.job.Job.{Job}
use Rattle.groot_line.specs.declared.program.Program.{Program}
use Rattle.net_model.specs.declared.config.Config.{Config}
use Rattle.run_endings.specs.Runs.{FilesOfRun}
use Rattle.groot_run.specs.Outcome.{JobOpensNoOther}
use Rattle.groot_run.specs.Runs.{ReadsForCheck}
use Rattle.groot_run.proofs.Endings.{headline, as_asked, with_job, with_usage}
use Rattle.groot_run.proofs.run.run_words.Goals as goal

pub of_job-requires : goal.of_job-requires
of_job-requires g c = (c.type_bounds.sync-G, (c.type_bounds.sync-R, job_in_range c.args.program (map (λ (word : Bor (List ℕ)). word.now) c.args.words.now) c.in-Ok.job c.in-Ok.ensures))

pub returns-in-Ok-clause-headline : goal.returns-in-Ok-clause-headline
returns-in-Ok-clause-headline g c = λ classes rewrites config files.
    let told = g.F.Files.told c.of_job.new.files in
    let before = g.F.Files.faults c.args.files.now in
    let after = g.F.Files.faults c.of_job.new.files in
    headline c.args.program told _ _ before after c.of_job.result
    (with_job c.args.program told _ _ before after c.in-Ok.job c.of_job.result c.in-Ok.ensures c.of_job.ensures.cause)
    files.meta files.workers classes rewrites config files.asked files.reads files.none_failed

pub returns-in-Ok-clause-run : goal.returns-in-Ok-clause-run
returns-in-Ok-clause-run g c =
    let told = g.F.Files.told c.of_job.new.files in
    let before = g.F.Files.faults c.args.files.now in
    let after = g.F.Files.faults c.of_job.new.files in
    as_asked c.args.program told _ _ before after c.of_job.result
    (with_job c.args.program told _ _ before after c.in-Ok.job c.of_job.result c.in-Ok.ensures c.of_job.ensures.cause)
    (g.F.Files.told c.args.files.now) c.of_job.ensures.from_the_start
    (subst (λ (job : Result Job LineFault). JobOpensNoOther c.args.program (g.F.Files.told c.args.files.now) told job) (sym c.in-Ok.ensures) c.of_job.ensures.opens)

-- words that are refused ask for no check
no_check : (program : Program) (words : List (List ℕ)) (files : FilesOfRun) (fault : LineFault) → fault ≡ Usage → (fault ≡ NoMemory) ⊎ (job_asked program words ≡ Err fault)
    → (classes rewrites : ℕ) (config : Config) → ReadsForCheck program words files classes rewrites config → ⊥
no_check program words files fault refused (inl ran_out) classes rewrites config reads = absurd (cc)
no_check program words files fault refused (inr refuses) classes rewrites config reads = absurd (cc (refuses, reads.asked))

pub returns-in-Err-Usage-clause-headline : goal.returns-in-Err-Usage-clause-headline
returns-in-Err-Usage-clause-headline g c = λ classes rewrites config reads.
    absurd (no_check c.args.program (map (λ (word : Bor (List ℕ)). word.now) c.args.words.now) _ _ c.in-Err-Usage.field-0-is c.in-Err-Usage.ensures classes rewrites config reads)

pub returns-in-Err-Usage-clause-run : goal.returns-in-Err-Usage-clause-run
returns-in-Err-Usage-clause-run g c =
    let told = g.F.Files.told c.args.files.now in
    let faults = g.F.Files.faults c.args.files.now in
    as_asked c.args.program told _ _ faults faults c.usage.result
    (with_usage c.args.program told _ _ faults faults _ c.usage.result c.in-Err-Usage.field-0-is c.in-Err-Usage.ensures c.usage.ensures)
    told (λ tells. refl) (λ file. inl refl)

pub returns-clause-run : goal.returns-clause-run
returns-clause-run g c =
    let told = g.F.Files.told c.args.files.now in
    let faults = g.F.Files.faults c.args.files.now in
    as_asked c.args.program told _ _ faults faults c.no_memory.result (inr (inr c.no_memory.ensures)) told (λ tells. refl) (λ file. inl refl)
