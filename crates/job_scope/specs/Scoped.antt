-- The scope of a name: the queries at or below it, told apart by the configuration's own base names and the prefixes of
-- the name.
use Rattle.std.specs.Prelude.{◌≡◌, ℕ, [], ◌∷◌}
use Rattle.dns_data.specs.Name.{Labels}
use Rattle.graph_form.specs.Report.{Subject}
use Rattle.net_model.specs.declared.config.Config.{Config}
use Rattle.net_model.specs.Reading.{Ground, joined_ground}

-- the configuration's own ground, with all prefixes of a name added to its base names
abbrev pub widened : Config → Labels → Ground
widened config name = joined_ground (config ∷ []) (name ∷ [])

-- a configuration, looked at by this ground, at or below a name
abbrev pub at_or_below : (config : Config) (rewrites : ℕ) (ground : Ground) (name : Labels) → Subject
at_or_below config rewrites ground name = record { config = config; rewrites = rewrites; ground = ground; below = name }

-- the scope of a name: the configuration, looked at by its ground widened by the name, at or below the name
abbrev pub scoped : Config → ℕ → Labels → Subject
scoped config rewrites name = at_or_below config rewrites (widened config name) name

-- the subject is the scope of some name in the configuration, with some number of rewrites
abbrev pub IsScopeOf : Config → Subject → Type 0
IsScopeOf config subject = (rewrites : ℕ) × (name : Labels) × (scoped config rewrites name ≡ subject)
