-- How DNAME records tie names to each other, and which names a configuration tells apart (RFC 6672 section 2.2).
use Rattle.std.specs.Prelude.{◌≡◌, List, [], ◌∷◌, ◌++◌, map, Contains}
use Rattle.std.specs.List.{flat_map}
use Rattle.dns_data.specs.Name.{Labels}
use Rattle.dns_data.specs.declared.rdata.Rdata.{Rdata}
use Rattle.dns_data.specs.declared.rdata.Rdata.TheVariants.{Dname}
use Rattle.dns_data.specs.declared.rdata.Rr.{Rr}
use Rattle.net_model.specs.declared.config.Config.{Config}
use Rattle.net_model.specs.declared.config.Zone.{Zone}
use Rattle.net_model.specs.Prefix.{prefixes}

-- the owner and the target of a DNAME record
pub record Redirection : Type 0 where
  pub owner : Labels
  pub target : Labels

-- one reading: the first labels of a name are a redirection's owner, and its target stands in their place
pub record ReadsOnce (redirections : List Redirection) (name next : Labels) : Type 0 where
  pub redirection : Redirection
  pub among : Contains redirections redirection
  pub below : Labels
  pub before : name ≡ redirection.owner ++ below
  pub after : next ≡ redirection.target ++ below

-- each name of the list reads once to the one after it, from the first name to the last
abbrev pub ReadsAlong : List Redirection → Labels → List Labels → Labels → Type 0
ReadsAlong redirections name [] last = name ≡ last
ReadsAlong redirections name (next ∷ rest) last =
    ReadsOnce redirections name next × ReadsAlong redirections next rest last

-- zero or more readings lead from the name to the last. Their lengths are not looked at.
abbrev pub ReadsOnTo : List Redirection → Labels → Labels → Type 0
ReadsOnTo redirections name last = (between : List Labels) × ReadsAlong redirections name between last

-- Base names with the redirections under which names are told apart.
pub record Ground : Type 0 where
  pub names : List Labels
  pub redirections : List Redirection

-- some readings lead from the name to a base name
pub record IsNamed (ground : Ground) (name : Labels) : Type 0 where
  pub base : Labels
  pub among : Contains ground.names base
  pub reads : ReadsOnTo ground.redirections name base

-- all zones of the configuration
abbrev pub zones : Config → List Zone
zones config = flat_map (λ server. server.zones) config.servers

-- all records of the configuration
abbrev pub records : Config → List Rr
records config = flat_map (λ zone. zone.rrs) (zones config)

-- the redirection of a record, if it is a DNAME record
abbrev pub redirection_of : Labels → Rdata → List Redirection
redirection_of owner (Dname target) = record { owner = owner; target = target } ∷ []
redirection_of owner rdata = []

-- the redirections of the configuration's DNAME records
abbrev pub redirections_of : Config → List Redirection
redirections_of config = flat_map (λ rr. redirection_of rr.owner rr.rdata) (records config)

-- the origins of the configuration's zones and the owners of its records
abbrev pub origins_and_owners : Config → List Labels
origins_and_owners config = map (λ zone. zone.origin) (zones config) ++ map (λ rr. rr.owner) (records config)

-- the configuration's own ground: the root, and all prefixes of its origins and owners
abbrev pub ground_of : Config → Ground
ground_of config =
    record { names = [] ∷ flat_map prefixes (origins_and_owners config); redirections = redirections_of config }

-- a ground of several configurations and some names more: the root, the prefixes of all their origins and owners and of
-- these names, and all their redirections
abbrev pub joined_ground : List Config → List Labels → Ground
joined_ground configs given =
    record { names = [] ∷ flat_map prefixes (flat_map origins_and_owners configs ++ given); redirections = flat_map redirections_of configs }

-- The ground covers the configuration: it has the root, all origins and owners, and the owner of each of its
-- redirections; it has the prefixes of its names; and it has all DNAME records of the configuration.
pub record Covers (ground : Ground) (config : Config) : Type 0 where
  pub root : Contains ground.names []
  pub named_in_config : (name : Labels) → Contains (origins_and_owners config) name → Contains ground.names name
  pub redirected : (redirection : Redirection) → Contains ground.redirections redirection → Contains ground.names redirection.owner
  pub prefixes : (above below : Labels) → Contains ground.names (above ++ below) → Contains ground.names above
  pub dnames : (redirection : Redirection) → Contains (redirections_of config) redirection → Contains ground.redirections redirection
