use Rattle.walk_laws.proofs.WalksAlike.ClassTails.{class_tails}
use Rattle.walk_laws.proofs.WalksAlike.QueryWalks.{walks_as, reaches_more, reaches_no_fewer}
use Rattle.walk_laws.proofs.laws.simulation.Goals as goal

pub returns-clause-walks : goal.returns-clause-walks
returns-clause-walks c = λ setting above own other tails rtype. walks_as setting above own other tails rtype

pub returns-clause-more : goal.returns-clause-more
returns-clause-more c = λ config rewrites above own other tails most. reaches_more config rewrites above own other tails most

pub returns-clause-pairs : goal.returns-clause-pairs
returns-clause-pairs c =
    λ config rewrites above own other tails of_own of_other own_are other_are.
    reaches_no_fewer config rewrites above own other tails of_own of_other own_are other_are

pub returns-clause-classes : goal.returns-clause-classes
returns-clause-classes c =
    λ config ground covers above query representative is of_class stands.
    class_tails config ground covers above query representative is of_class stands
