-- The base names of configurations, zone by zone. The contracts of inner calls alone cite it.
use Rattle.std.specs.Prelude.{◌⊎◌, List}
use Rattle.std.specs.List.{flat_map}
use Rattle.dns_data.specs.Name.{Labels}
use Rattle.net_model.specs.declared.config.Config.{Config}
use Rattle.net_model.specs.declared.config.Zone.{Zone}
use Rattle.net_model.specs.Reading.{Redirection, redirection_of, zones}
use Rattle.label_graph.specs.Graphs.{SomeItem}
use Rattle.label_graph.specs.Targets.{IsPrefixFrom}

-- the name is a front of the zone's origin or of the owner of one of its records
abbrev pub IsInZone : Labels → Zone → Type 0
IsInZone name zone = IsPrefixFrom 0 zone.origin name ⊎ SomeItem (λ rr. IsPrefixFrom 0 rr.owner name) zone.rrs

-- the name is a front of the origin, or of the owner of a record, of one of the configuration's zones
abbrev pub IsInConfig : Labels → Config → Type 0
IsInConfig name config = SomeItem (IsInZone name) (zones config)

-- the redirections of a zone's records
abbrev pub zone_redirections : Zone → List Redirection
zone_redirections zone = flat_map (λ rr. redirection_of rr.owner rr.rdata) zone.rrs
