use Rattle.std.proofs.Common.{◌≡◌, ◌⊎◌, ℕ, List, subst}
use Rattle.run_endings.specs.Endings.{no_memory}
use Rattle.run_endings.specs.declared.ending.Ending.{Ending}
use Rattle.groot_run.specs.Outcome.{IsRechecked}
use Rattle.groot_run.proofs.Rechecked.{EndsWithin, over_file, over_no_file}
use Rattle.groot_run.proofs.recheck.of_config.Goals as goal

pub returns-in-Ok-clause-cause : goal.returns-in-Ok-clause-cause
returns-in-Ok-clause-cause g c =
    let told = g.F.Files.told c.read_file.new.files in
    let before = g.F.Files.faults c.args.files.now in
    let after = g.F.Files.faults c.read_file.new.files in
    let report = c.args.report.now in
    let config = c.args.config.now in
    rw (c.let_go_of_all.ensures.told, c.let_go_of_all.ensures.faults)
    (subst (EndsWithin told before after report (IsRechecked report config) c.of_octets.result) c.limits_of.ensures
    (over_file c.limits_of.result told before after report c.in-Ok.octets (IsRechecked report config) c.of_octets.result c.in-Ok.ensures.gives
    (subst (λ (octets : List ℕ). IsRechecked report config octets c.of_octets.result ⊎ (c.of_octets.result ≡ no_memory)) c.items.ensures c.of_octets.ensures)))

pub returns-in-Err-clause-cause : goal.returns-in-Err-clause-cause
returns-in-Err-clause-cause g c =
    let told = g.F.Files.told c.read_file.new.files in
    let before = g.F.Files.faults c.args.files.now in
    let after = g.F.Files.faults c.read_file.new.files in
    let report = c.args.report.now in
    let config = c.args.config.now in
    subst (EndsWithin told before after report (IsRechecked report config) c.not_loaded.result) c.limits_of.ensures
    (over_no_file c.limits_of.result told before after report (IsRechecked report config) c.in-Err.fault c.not_loaded.result c.in-Err.ensures.gives c.in-Err.ensures.order
    c.in-Err.ensures.cause c.not_loaded.ensures)
