-- Which name servers are followed. The contracts of inner calls alone cite it.
use Rattle.std.specs.Prelude.{List}
use Rattle.dns_data.specs.Name.{Labels}
use Rattle.net_model.specs.declared.config.Config.{Config}
use Rattle.net_model.specs.Nearest.{server_names}
use Rattle.zone_lookup.specs.declared.walker.Followed.{Followed}
use Rattle.zone_lookup.specs.declared.walker.Followed.TheVariants.{Configured, Named, Least}

-- the names of the name servers that are followed
abbrev pub names_followed : Config → Followed → List Labels
names_followed config Configured = server_names config
names_followed config (Named names) = names.now
names_followed config (Least sets) = sets.now.least
