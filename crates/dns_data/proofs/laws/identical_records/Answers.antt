-- Identical records are those of one owner and one data, and the first of them is kept.
use Rattle.dns_data.proofs.Distinct.{distinct-last}
use Rattle.dns_data.proofs.IdenticalRecords.{identical_by_parts}
use Rattle.dns_data.specs.Identical.{is_identical}
use Rattle.dns_data.proofs.laws.identical_records.Goals as goal

pub returns-clause-parts : goal.returns-clause-parts
returns-clause-parts c a b = identical_by_parts a b

pub returns-clause-first : goal.returns-clause-first
returns-clause-first c before rr = distinct-last is_identical rr before
