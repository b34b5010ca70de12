use Rattle.std.proofs.Common.{Option, Result, Ok, Err, subst}
use Rattle.dns_data.specs.Answers.{AnswersOr, with_fault}
use Rattle.dns_data.specs.Name.{Labels}
use Rattle.net_model.specs.declared.config.Zone.{Zone}
use Rattle.zone_rules.specs.ZoneOf.{zone_of}
use Rattle.config_load.specs.Faults.{of_rule}
use Rattle.config_load.specs.declared.fault.LoadFault.{LoadFault}
use Rattle.config_load.specs.declared.fault.LoadFault.TheVariants.{NoMemory}
use Rattle.config_load.proofs.ReadRows.{HasAnswered-no_files, HasAnswered-no_zone, HasAnswered-zone}
use Rattle.config_load.proofs.zone.read_zone.Goals as goal

pub returns-in_err-read-clause-reads : goal.returns-in_err-read-clause-reads
returns-in_err-read-clause-reads g c =
    HasAnswered-no_files c.args.meta.now c.args.row.now c.args.left c.in_err-read.field-0.0 c.from_residual.result c.from_residual.ensures.1 c.in_err-read.ensures

pub returns-in_err-zone-clause-reads : goal.returns-in_err-zone-clause-reads
returns-in_err-zone-clause-reads g c =
    let answer : Result Zone LoadFault = Err c.in_err-zone.field-0.0 in
    HasAnswered-no_zone c.args.meta.now c.args.row.now c.args.left c.in_ok-read.read c.in_err-zone.field-0.0 c.from_residual-in_err-zone.result c.from_residual-in_err-zone.ensures.1 c.in_ok-read.ensures
    (subst (λ (origin : Option Labels). AnswersOr NoMemory answer (with_fault (of_rule c.in_ok-read.read.names) (zone_of origin c.in_ok-read.read.text.rrs))) c.as_ref.ensures.value c.in_err-zone.ensures.answers)

pub returns-clause-reads : goal.returns-clause-reads
returns-clause-reads g c =
    let answer : Result Zone LoadFault = Ok c.in_ok-zone.zone in
    HasAnswered-zone c.args.meta.now c.args.row.now c.args.left c.in_ok-read.read c.in_ok-zone.zone c.behind-left.result c.behind-left.ensures c.in_ok-read.ensures
    (subst (λ (origin : Option Labels). AnswersOr NoMemory answer (with_fault (of_rule c.in_ok-read.read.names) (zone_of origin c.in_ok-read.read.text.rrs))) c.as_ref.ensures.value c.in_ok-zone.ensures.answers)
