use Rattle.std.proofs.Common.{ℕ, List, Contains, subst}
use Rattle.address_deps.proofs.Listing.{listed_already}
use Rattle.address_deps.proofs.dependents.Dependents.put.Goals as goal

pub returns-then-is_last : goal.returns-then-is_last
returns-then-is_last c =
    listed_already c.args.place c.args.name.now c.args.self.now.places
    (subst (λ (places : List ℕ). Contains places c.args.place) c.on.ensures (c.is_last.ensures c.if-is_last.true))
