use Rattle.walk_laws.proofs.SameOutcomes.{bounded_representative, outcomes_of_representative, outcomes_in_class}
use Rattle.walk_laws.proofs.laws.outcomes.Goals as goal

pub returns-clause-members : goal.returns-clause-members
returns-clause-members c =
    λ setting ground covers class one other of_one of_other rtype bounded bounded_other.
    outcomes_in_class setting ground covers rtype class one other of_one of_other bounded bounded_other

pub returns-clause-bounded : goal.returns-clause-bounded
returns-clause-bounded c =
    λ setting ground covers class query representative is of_class stands rtype bounded.
    bounded_representative setting ground covers rtype class query representative is of_class stands bounded

pub returns-clause-representative : goal.returns-clause-representative
returns-clause-representative c =
    λ setting ground covers class query representative is of_class stands rtype bounded.
    outcomes_of_representative setting ground covers rtype class query representative is of_class stands bounded
