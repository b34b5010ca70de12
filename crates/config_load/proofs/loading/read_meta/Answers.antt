use Rattle.std.proofs.Common.{List, ℕ, subst}
use Rattle.dns_data.specs.Answers.{AnswersOr, with_fault}
use Rattle.meta_read.specs.Metadata.{metadata_within}
use Rattle.config_load.specs.Faults.{of_metadata}
use Rattle.config_load.specs.declared.fault.LoadFault.TheVariants.{NoMemory}
use Rattle.config_load.proofs.ReadRows.{HasAnswered-no_octets, HasAnswered-octets}
use Rattle.config_load.proofs.loading.read_meta.Goals as goal

pub returns-in_err-octets-clause-reads : goal.returns-in_err-octets-clause-reads
returns-in_err-octets-clause-reads g c =
    HasAnswered-no_octets c.args.limits c.args.meta.now c.in_err-octets.field-0.0 c.from_residual.result c.from_residual.ensures.1 c.in_err-octets.ensures

pub returns-clause-reads : goal.returns-clause-reads
returns-clause-reads g c =
    HasAnswered-octets c.args.limits c.args.meta.now c.in_ok-octets.octets c.meta_in.result c.in_ok-octets.ensures
    (subst (λ (octets : List ℕ). AnswersOr NoMemory c.meta_in.result (with_fault of_metadata (metadata_within c.args.limits.rows octets))) c.items.ensures c.meta_in.ensures.answers)
