use Rattle.std.proofs.Common.{ℕ, List, Result, subst, refl}
use Rattle.config_load.proofs.ShortFiles.{file_is_short}
use Rattle.config_load.proofs.Steady.{file_is_steady, opens_behind, opens_first}
use Rattle.config_load.specs.Load.{OpensNoOther}
use Rattle.config_load.specs.Reading.{◌>>=◌, file_octets}
use Rattle.config_load.specs.declared.limits.Limits.{Limits}
use Rattle.io_edges.specs.Files.{FilesTold}
use Rattle.io_edges.proofs.Told.{StaysTold-then, TellsAll-same}
use Rattle.net_model.specs.declared.config.Config.{Config}
use Rattle.part_names.specs.PartNames.{names_in}
use Rattle.part_names.specs.declared.fault.NamesFault.{NamesFault}
use Rattle.part_names.specs.declared.names.PartNames.{PartNames}
use Rattle.run_endings.specs.Ends.{EndsOver}
use Rattle.run_endings.specs.declared.ending.Ending.{Ending}
use Rattle.report_run.specs.declared.judging.CheckLimits.{CheckLimits}
use Rattle.config_load.specs.Reading.{Reading}
use Rattle.parts_run.specs.PartTold.{TellsRead, behind_names}
use Rattle.parts_run.proofs.PartEnds.{over_behind, over_unread}
use Rattle.parts_run.proofs.part.part.Goals as goal

-- what follows the octets of the names' file
abbrev next : List ℕ → FilesTold → List ℕ → Reading (Result (PartNames × Config) NamesFault)
next meta told octets = behind_names meta (names_in octets) told

-- how a run ends over the files of a part, where these are the limits of the first
abbrev EndsWithin : List ℕ → List ℕ → CheckLimits → FilesTold → (List ℕ → ℕ) → (List ℕ → ℕ) → Ending → Limits → Type 0
EndsWithin meta file limits told before after ending within =
    EndsOver {T = Result (PartNames × Config) NamesFault} meta (λ told. file_octets within file told >>= next meta told) (TellsRead limits file) told before after ending

pub of_octets-requires-clause-few : goal.of_octets-requires-clause-few
of_octets-requires-clause-few g c lifetimes outlives =
    file_is_short c.largest.result c.args.job.names.now (g.F.Files.told c.read_file.new.files) c.in-Ok.octets c.in-Ok.octets refl c.in-Ok.ensures.gives

pub returns-in-Ok-clause-cause : goal.returns-in-Ok-clause-cause
returns-in-Ok-clause-cause g c =
    let job = c.args.job in
    let told = g.F.Files.told c.of_octets.new.files in
    let before = g.F.Files.faults c.args.files.now in
    let after = g.F.Files.faults c.of_octets.new.files in
    subst (EndsWithin job.meta.now job.names.now job.limits told before after c.of_octets.result) c.largest.ensures
    (over_behind c.largest.result job.names.now (next job.meta.now) job.meta.now (TellsRead job.limits job.names.now) c.of_octets.result
    (g.F.Files.told c.read_file.new.files) told before (g.F.Files.faults c.read_file.new.files) after c.in-Ok.octets c.in-Ok.ensures.gives
    c.of_octets.ensures.stays c.read_file.ensures.never_fall c.of_octets.ensures.cause)

pub returns-in-Ok-clause-from_the_start : goal.returns-in-Ok-clause-from_the_start
returns-in-Ok-clause-from_the_start g c all =
    let told = g.F.Files.told in
    TellsAll-same (told c.args.files.now) (told c.of_octets.new.files) all
    (StaysTold-then (told c.args.files.now) (told c.read_file.new.files) (told c.of_octets.new.files) c.read_file.ensures.stays c.of_octets.ensures.stays)

pub returns-in-Ok-clause-opens : goal.returns-in-Ok-clause-opens
returns-in-Ok-clause-opens g c =
    let job = c.args.job in
    let before = g.F.Files.told c.args.files.now in
    let told = g.F.Files.told c.of_octets.new.files in
    subst (λ (within : Limits). OpensNoOther (λ told. file_octets within job.names.now told >>= next job.meta.now told) before told) c.largest.ensures
    (opens_behind (file_octets c.largest.result job.names.now) (next job.meta.now) (file_is_steady c.largest.result job.names.now) before (g.F.Files.told c.read_file.new.files) told c.in-Ok.octets
    c.of_octets.ensures.stays c.in-Ok.ensures.gives c.read_file.ensures.opens c.of_octets.ensures.opens)

pub returns-in-Err-clause-cause : goal.returns-in-Err-clause-cause
returns-in-Err-clause-cause g c =
    let job = c.args.job in
    let told = g.F.Files.told c.read_file.new.files in
    let before = g.F.Files.faults c.args.files.now in
    let after = g.F.Files.faults c.read_file.new.files in
    subst (EndsWithin job.meta.now job.names.now job.limits told before after c.not_loaded.result) c.largest.ensures
    (over_unread c.largest.result job.names.now (next job.meta.now) job.meta.now (TellsRead job.limits job.names.now) c.not_loaded.result
    told before after c.in-Err.fault c.in-Err.ensures.gives c.in-Err.ensures.order c.in-Err.ensures.cause c.not_loaded.ensures)

pub returns-in-Err-clause-opens : goal.returns-in-Err-clause-opens
returns-in-Err-clause-opens g c =
    let job = c.args.job in
    let before = g.F.Files.told c.args.files.now in
    let told = g.F.Files.told c.read_file.new.files in
    subst (λ (within : Limits). OpensNoOther (λ told. file_octets within job.names.now told >>= next job.meta.now told) before told) c.largest.ensures
    (opens_first (file_octets c.largest.result job.names.now) (next job.meta.now) before told c.read_file.ensures.opens)
