use Rattle.std.proofs.Common.{List, ℕ, [], ◌∷◌, ◌++◌, subst, ap, ◌∙◌}
use Rattle.master_read.specs.declared.asked.AfterFile.{AfterFile}
use Rattle.config_load.specs.Fed.{HasFed, FailsToRead}
use Rattle.config_load.specs.Joined.{joined}
use Rattle.config_load.specs.Sources.{ReadsOnly}
use Rattle.config_load.proofs.Sources.{FailedAt-passed, FailsToRead-again, FailsToRead-wanting, ReadsOnly-none}
use Rattle.config_load.proofs.Steps.{FailedAt-wanting}
use Rattle.config_load.proofs.zone_files.feed_next.Goals as goal

-- no name could be made
pub returns-in_err-name-clause-fault : goal.returns-in_err-name-clause-fault
returns-in_err-name-clause-fault g c =
    FailsToRead-wanting c.args.left (g.F.Files.told c.args.files.now) (joined c.args.meta.now c.args.file.now) c.from_residual.result c.from_residual.ensures.1

pub returns-in_err-name-clause-cause : goal.returns-in_err-name-clause-cause
returns-in_err-name-clause-cause g c =
    FailedAt-wanting (g.F.Files.faults c.args.files.now) (g.F.Files.faults c.args.files.now) c.from_residual.result c.from_residual.ensures.1

pub returns-in_err-name-clause-only : goal.returns-in_err-name-clause-only
returns-in_err-name-clause-only g c =
    ReadsOnly-none (joined c.args.meta.now c.args.file.now) (g.F.Files.told c.args.files.now) (g.F.Files.faults c.args.files.now)

-- the file isn't read
pub returns-in_err-asked-clause-fault : goal.returns-in_err-asked-clause-fault
returns-in_err-asked-clause-fault g c =
    let told = g.F.Files.told c.feed_whole.new.files in
    FailsToRead-again c.args.left told (joined c.args.meta.now c.args.file.now) c.in_err-asked.field-0.0 c.from_residual-in_err-asked.result
    (subst (λ (name : List ℕ). FailsToRead c.args.left told name c.in_err-asked.field-0.0) (c.as_str.ensures ∙ c.in_ok-name.ensures) c.in_err-asked.ensures.fault)
    c.from_residual-in_err-asked.ensures.1

pub returns-in_err-asked-clause-cause : goal.returns-in_err-asked-clause-cause
returns-in_err-asked-clause-cause g c =
    FailedAt-passed AfterFile (g.F.Files.faults c.args.files.now) (g.F.Files.faults c.feed_whole.new.files) c.in_err-asked.field-0.0 c.from_residual-in_err-asked.result c.from_residual-in_err-asked.ensures.1 c.in_err-asked.ensures.cause

pub returns-in_err-asked-clause-only : goal.returns-in_err-asked-clause-only
returns-in_err-asked-clause-only g c =
    subst (λ (name : List ℕ). ReadsOnly name (g.F.Files.told c.args.files.now) (g.F.Files.told c.feed_whole.new.files) (g.F.Files.faults c.args.files.now) (g.F.Files.faults c.feed_whole.new.files)) (c.as_str.ensures ∙ c.in_ok-name.ensures) c.in_err-asked.ensures.only

-- its name can't be put behind the others
pub returns-in_err-push-clause-fault : goal.returns-in_err-push-clause-fault
returns-in_err-push-clause-fault g c =
    FailsToRead-wanting c.args.left (g.F.Files.told c.feed_whole.new.files) (joined c.args.meta.now c.args.file.now) c.from_residual-in_err-push.result c.from_residual-in_err-push.ensures.1

pub returns-in_err-push-clause-cause : goal.returns-in_err-push-clause-cause
returns-in_err-push-clause-cause g c =
    FailedAt-wanting (g.F.Files.faults c.args.files.now) (g.F.Files.faults c.feed_whole.new.files) c.from_residual-in_err-push.result c.from_residual-in_err-push.ensures.1

pub returns-in_err-push-clause-only : goal.returns-in_err-push-clause-only
returns-in_err-push-clause-only g c =
    subst (λ (name : List ℕ). ReadsOnly name (g.F.Files.told c.args.files.now) (g.F.Files.told c.feed_whole.new.files) (g.F.Files.faults c.args.files.now) (g.F.Files.faults c.feed_whole.new.files)) (c.as_str.ensures ∙ c.in_ok-name.ensures) c.in_ok-asked.ensures.only

-- the file was read
pub returns-clause-named : goal.returns-clause-named
returns-clause-named g c = c.in_ok-push.ensures.ok ∙ ap (λ (name : List ℕ). c.args.names.now ++ name ∷ []) c.in_ok-name.ensures

pub returns-clause-asked : goal.returns-clause-asked
returns-clause-asked g c =
    subst (λ (name : List ℕ). HasFed c.args.left (g.F.Files.told c.feed_whole.new.files) name c.args.reader.now c.in_ok-asked.asked c.feed_whole.new.reader) (c.as_str.ensures ∙ c.in_ok-name.ensures) c.in_ok-asked.ensures.asked

pub returns-clause-only : goal.returns-clause-only
returns-clause-only g c =
    subst (λ (name : List ℕ). ReadsOnly name (g.F.Files.told c.args.files.now) (g.F.Files.told c.feed_whole.new.files) (g.F.Files.faults c.args.files.now) (g.F.Files.faults c.feed_whole.new.files)) (c.as_str.ensures ∙ c.in_ok-name.ensures) c.in_ok-asked.ensures.only
