-- Lines on limits that are passed, as they are printed.
use Rattle.std.proofs.Common.{◌≡◌, [], ◌∷◌, codes, refl}
use Rattle.std.specs.Fmt.{digits}
use Rattle.plain_resolver.specs.Passed.{most_walks_followed}
use Rattle.run_endings.specs.Endings.{too_many_names, too_many_to_learn}
use Rattle.report_run.specs.Budgets.{too_many_states}
use Rattle.groot_run.specs.Outcome.{too_many_walks}

names : (too_many_names 1000000).err ≡ codes "classes: more than 1000000\n"
unfolding digits
names = refl

states : (too_many_states (codes "test" ∷ codes "a" ∷ [])).err ≡ codes "states: more than 100000 for a.test.\n"
unfolding digits
states = refl

walks : too_many_walks.err ≡ codes "walks: more than 1000\n"
unfolding digits
walks = refl

learning_walks : (too_many_to_learn most_walks_followed (codes "test" ∷ codes "ns" ∷ [])).err ≡ codes "walks: more than 10000 for ns.test.\n"
unfolding digits
learning_walks = refl
