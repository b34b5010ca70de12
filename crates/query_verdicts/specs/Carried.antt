-- Whole configurations as subjects of a report, and the faults that the classes of a subject show.
use Rattle.std.specs.Prelude.{ℕ, []}
use Rattle.dns_data.specs.Name.{Labels}
use Rattle.dns_data.specs.declared.rr_type.RrType.{RrType}
use Rattle.graph_form.specs.Report.{Subject, ClassShows}
use Rattle.net_model.specs.declared.class.Class.{Class}
use Rattle.net_model.specs.declared.config.Config.{Config}
use Rattle.net_model.specs.declared.fault.Fault.{Fault}
use Rattle.net_model.specs.Reading.{Ground, ground_of}

-- a configuration, looked at by this ground and at all names
abbrev pub at_all_names : (config : Config) (rewrites : ℕ) (ground : Ground) → Subject
at_all_names config rewrites ground = record { config = config; rewrites = rewrites; ground = ground; below = [] }

-- a whole configuration: by its own ground
abbrev pub whole_config : Config → ℕ → Subject
whole_config config rewrites = at_all_names config rewrites (ground_of config)

-- the representative of some class shows the fault with some type
abbrev pub SomeClassShows : Subject → Fault → Type 0
SomeClassShows subject fault = (class : Class) × (query : Labels) × (rtype : RrType) × ClassShows subject class query rtype fault
