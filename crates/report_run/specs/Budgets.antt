-- The budgets of a run that judges names: how many names the class tree may have, and how many pairs of state and type a
-- query may reach; and how a run ends that passes one of them.
use Rattle.std.specs.Prelude.{◌≡◌, ℕ, ◌⊎◌}
use Rattle.dns_data.specs.Name.{Labels}
use Rattle.graph_form.specs.Report.{Subject}
use Rattle.net_model.specs.declared.config.Config.{Config}
use Rattle.net_model.specs.Reading.{ground_of}
use Rattle.net_model.specs.Tree.{HasMoreThan, IsInPart}
use Rattle.query_classes.specs.Children.{IsInTree}
use Rattle.query_verdicts.specs.Carried.{whole_config}
use Rattle.query_verdicts.specs.Passed.{SomeClassPasses, IsFirstPassed, IsRefusedFor, NonePasses}
use Rattle.query_verdicts.specs.Queries.{most_states}
use Rattle.run_endings.specs.Endings.{too_many_names, too_many_states as too_many_states_than}
use Rattle.run_endings.specs.declared.ending.Ending.{Ending}

-- the ending if the query reaches more pairs of state and type than are looked at
abbrev pub too_many_states : Labels → Ending
too_many_states query = too_many_states_than most_states query

-- What is given where names are judged: where there are no more names than the limit, and no query is refused since it
-- reaches more pairs of state and type than it may, the run ends so.
abbrev pub WithinBudgets : ℕ → Type 0 → (Labels → Type 0) → Type 0 → Type 0 → Ending → Type 0
WithinBudgets limit HasMore IsRefused NoneIs EndsSo ending =
    (HasMore × (ending ≡ too_many_names limit))
    ⊎ ((HasMore → ⊥) × (((query : Labels) × IsRefused query × (ending ≡ too_many_states query)) ⊎ (NoneIs × EndsSo)))

-- ---- of a configuration

-- the class tree of the configuration has more names than the limit
abbrev pub HasMoreNames : Config → ℕ → Type 0
HasMoreNames config limit = HasMoreThan (IsInTree (ground_of config)) limit

-- what a command gives for which the class tree may have so many names: where it has no more, the run ends so
abbrev pub WithinNames : Config → ℕ → Type 0 → Ending → Type 0
WithinNames config limit EndsSo ending =
    (HasMoreNames config limit × (ending ≡ too_many_names limit)) ⊎ ((HasMoreNames config limit → ⊥) × EndsSo)

-- What a command gives that judges the classes: where no representative reaches more pairs of state and type than it
-- may, the run ends so. Of those that do the first in class order is named.
abbrev pub WithinStates : Config → ℕ → Type 0 → Ending → Type 0
WithinStates config rewrites EndsSo ending =
    ((query : Labels) × IsFirstPassed (whole_config config rewrites) most_states query × (ending ≡ too_many_states query))
    ⊎ ((SomeClassPasses (whole_config config rewrites) most_states → ⊥) × EndsSo)

-- ---- of a subject

-- the class tree of a subject has more names at or below its name than the limit
abbrev pub HasMoreNamesAt : Subject → ℕ → Type 0
HasMoreNamesAt subject limit = HasMoreThan (IsInPart subject.ground subject.below) limit

-- What is given of a subject: where its class tree has no more names at or below its name than the limit, and neither a
-- representative there nor the name of a server reaches more pairs of state and type than it may, the run ends so. Of those
-- that do the first representative in class order is named, or else the first server.
abbrev pub WithinSubject : Subject → ℕ → Type 0 → Ending → Type 0
WithinSubject subject limit = WithinBudgets limit (HasMoreNamesAt subject limit) (IsRefusedFor subject most_states) (NonePasses subject most_states)
