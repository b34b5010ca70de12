use Rattle.walk_laws.proofs.Returns.{limit_between, limit_shown}
use Rattle.walk_laws.proofs.laws.return_law.Goals as goal

pub returns-clause-limit : goal.returns-clause-limit
returns-clause-limit c = λ setting query rtype walk is back. limit_between setting query rtype walk is back

pub returns-clause-shows : goal.returns-clause-shows
returns-clause-shows c =
    λ config rewrites followed in_force query rtype walk is back. limit_shown config rewrites followed in_force query rtype walk is back
