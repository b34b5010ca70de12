use Rattle.walk_laws.proofs.FaultsCarried.{carried, carried_under}
use Rattle.walk_laws.proofs.Represents.{represents_everywhere}
use Rattle.walk_laws.proofs.laws.carrying.Goals as goal

pub returns-clause-own : goal.returns-clause-own
returns-clause-own c =
    λ config rewrites class query representative is of_class stands rtype fault shows.
    carried config rewrites class query representative is of_class stands rtype fault shows

pub returns-clause-covering : goal.returns-clause-covering
returns-clause-covering c =
    λ config rewrites ground covers class query representative is of_class stands rtype fault shows.
    carried_under config rewrites ground covers class query representative is of_class stands rtype fault shows

pub returns-clause-represents : goal.returns-clause-represents
returns-clause-represents c =
    λ config ground covers class query of_class represents. represents_everywhere config ground covers class query of_class represents
