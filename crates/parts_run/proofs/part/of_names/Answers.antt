use Rattle.std.proofs.Common.{subst}
use Rattle.config_load.specs.Conf.{conf_unless, row_skips}
use Rattle.config_load.specs.Load.{OpensNoOther}
use Rattle.config_load.specs.Limits.{largest_limits}
use Rattle.config_load.specs.Reading.{Reading}
use Rattle.config_load.specs.declared.limits.Limits.{Limits}
use Rattle.io_edges.specs.Files.{FilesTold}
use Rattle.net_model.specs.declared.config.Config.{Config}
use Rattle.part_checks.specs.Skipped.{is_skipped}
use Rattle.part_names.specs.declared.names.PartNames.{PartNames}
use Rattle.run_endings.proofs.AsAsked.{over_fault}
use Rattle.run_endings.specs.Ends.{EndsOver}
use Rattle.run_endings.specs.declared.ending.Ending.{Ending}
use Rattle.parts_run.specs.PartTold.{TellsPart}
use Rattle.parts_run.proofs.PartEnds.{over_taken}
use Rattle.parts_run.proofs.part.of_names.Goals as goal

pub returns-in-Ok-load_taken-clause-cause : goal.returns-in-Ok-load_taken-clause-cause
returns-in-Ok-load_taken-clause-cause g c =
    let job = c.args.job in
    let told = g.F.Files.told c.load_taken.new.files in
    let before = g.F.Files.faults c.args.files.now in
    let after = g.F.Files.faults c.load_taken.new.files in
    rw (c.let_go_of_all.ensures.told, c.let_go_of_all.ensures.faults)
    (over_taken job.limits job.meta.now job.names.now c.args.names.now told before after c.of_taken-ending.result c.in-Ok.taker c.load_taken.new.taker
    c.in-Ok-load_taken.taken c.in-Ok.ensures.none c.in-Ok.ensures.names (rw c.largest.ensures at c.in-Ok-load_taken.ensures.gives) c.of_taken-ending.ensures)

pub returns-in-Err-clause-cause : goal.returns-in-Err-clause-cause
returns-in-Err-clause-cause g c =
    let job = c.args.job in
    let told = g.F.Files.told c.load_taken.new.files in
    let before = g.F.Files.faults c.args.files.now in
    let after = g.F.Files.faults c.load_taken.new.files in
    let tells : Config → Ending → Type 0 = λ config ending. TellsPart job.limits job.names.now config c.args.names.now ending in
    let reading : Limits → PartNames → FilesTold → Reading Config = λ limits names. conf_unless (row_skips (is_skipped names)) limits job.meta.now in
    subst (λ (names : PartNames). EndsOver {T = Config} job.meta.now (reading largest_limits names) tells told before after c.not_loaded.result) c.in-Ok.ensures.names
    (subst (λ (limits : Limits). EndsOver {T = Config} job.meta.now (reading limits c.in-Ok.taker.names) tells told before after c.not_loaded.result) c.largest.ensures
    (over_fault job.meta.now (reading c.largest.result c.in-Ok.taker.names) told before after c.not_loaded.result tells
    c.in-Err.fault c.in-Err.ensures.gives c.in-Err.ensures.order c.in-Err.ensures.cause c.not_loaded.ensures))

pub returns-in-Ok-load_taken-clause-opens : goal.returns-in-Ok-load_taken-clause-opens
returns-in-Ok-load_taken-clause-opens g c =
    let job = c.args.job in
    let reading : Limits → PartNames → FilesTold → Reading Config = λ limits names. conf_unless (row_skips (is_skipped names)) limits job.meta.now in
    rw c.let_go_of_all.ensures.told
    (subst (λ (names : PartNames). OpensNoOther (reading largest_limits names) (g.F.Files.told c.args.files.now) (g.F.Files.told c.load_taken.new.files)) c.in-Ok.ensures.names
    (subst (λ (limits : Limits). OpensNoOther (reading limits c.in-Ok.taker.names) (g.F.Files.told c.args.files.now) (g.F.Files.told c.load_taken.new.files)) c.largest.ensures
    c.load_taken.ensures.opens))

pub returns-in-Err-clause-opens : goal.returns-in-Err-clause-opens
returns-in-Err-clause-opens g c =
    let job = c.args.job in
    let reading : Limits → PartNames → FilesTold → Reading Config = λ limits names. conf_unless (row_skips (is_skipped names)) limits job.meta.now in
    subst (λ (names : PartNames). OpensNoOther (reading largest_limits names) (g.F.Files.told c.args.files.now) (g.F.Files.told c.load_taken.new.files)) c.in-Ok.ensures.names
    (subst (λ (limits : Limits). OpensNoOther (reading limits c.in-Ok.taker.names) (g.F.Files.told c.args.files.now) (g.F.Files.told c.load_taken.new.files)) c.largest.ensures
    c.load_taken.ensures.opens)
