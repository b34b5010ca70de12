-- Rewrites that lead to a name that doesn't exist, or past the limit, and the faults that a query shows by them.
use Rattle.std.specs.Prelude.{◌≡◌, ℕ, true, List, [], ◌++◌, map, Contains, Option, Some, IfSome, if◌then◌else◌}
use Rattle.std.specs.Option.{option_map_or}
use Rattle.dns_data.specs.Name.{Labels}
use Rattle.dns_data.specs.RrType.{type_eq}
use Rattle.dns_data.specs.declared.rr_type.RrType.{RrType}
use Rattle.dns_data.specs.declared.rr_type.RrType.TheVariants as types
use Rattle.net_model.specs.Shown.{ShowsBlackhole, ShowsLimit, is_authoritative}
use Rattle.net_model.specs.declared.fault.Fault.{Fault}
use Rattle.net_model.specs.declared.fault.Fault.TheVariants as faults
use Rattle.net_model.specs.declared.place.Place.{Place}
use Rattle.net_model.specs.declared.walk.Leaf.{Leaf}
use Rattle.net_model.specs.declared.walk.Leaf.TheVariants.{Limit, NxDomain}
use Rattle.net_model.specs.declared.walk.Walk.{Walk}
use Rattle.zone_tree.specs.Tree.{ZoneTree, name_of}
use Rattle.straight_walks.specs.declared.lent_place.AliasFault.{AliasFault}
use Rattle.straight_walks.specs.declared.lent_place.LentPlace.{LentPlace}

-- the place that is lent
abbrev pub place_of : LentPlace → Place
place_of lent = record { server = lent.server.now; zone = lent.zone.now; owner = lent.owner.now }

-- the place of a rewrite by a record that the owner has in the server's zone
abbrev pub owned_place : Labels → ZoneTree → ℕ → Place
owned_place server tree owner = record { server = server; zone = tree.zone.origin; owner = name_of tree owner }

-- that each of these rewrites leads to a name that doesn't exist
abbrev pub blackholes_at : List LentPlace → List Fault
blackholes_at places = map (λ place. faults.Blackhole (place_of place)) places

-- the fault of an alias: that so many rewrites are the limit, or that the alias leads to a name that doesn't exist
abbrev pub alias_fault : AliasFault → Fault
alias_fault one = option_map_or (λ most. faults.Limit (place_of one.place)) one.limit (faults.Blackhole (place_of one.place))

-- the faults of aliases that are shown with the type: with CNAME none is followed (RFC 1034 section 3.6.2)
abbrev pub alias_faults_with : List AliasFault → RrType → List Fault
alias_faults_with all rtype = if type_eq rtype types.Cname then [] else map alias_fault all

-- where the fault is that so many rewrites are the limit, walks may use as many
abbrev pub HasLimit : ℕ → AliasFault → Type 0
HasLimit rewrites one = IfSome one.limit (λ most. rewrites ≡ most)

-- Where a walk ends so behind this last rewrite, or none, a zone answers; the name exists, or it is among the shown faults
-- that the rewrite leads to a name that doesn't. Or it is among them that one more rewrite is past the limit.
abbrev pub IsToldEnd : List Fault → Option Place → Leaf → Type 0
IsToldEnd shown last NxDomain = (place : Place) → last ≡ Some place → Contains shown (faults.Blackhole place)
IsToldEnd shown last (Limit place) = Contains shown (faults.Limit place)
IsToldEnd shown last leaf = is_authoritative leaf ≡ true

-- the walk shows the fault by its end
abbrev pub EndShows : Walk → Fault → Type 0
EndShows walk (faults.Blackhole place) = ShowsBlackhole walk place
EndShows walk (faults.Limit place) = ShowsLimit walk place
EndShows walk fault = ⊥

-- What walks end in that a server answers: the rewrites that lead to no name with each type, and the faults of aliases.
pub record Told : Type 0 where
  pub places : List LentPlace
  pub aliases : List AliasFault

-- the faults of these with the type
abbrev pub told_with : Told → RrType → List Fault
told_with told rtype = alias_faults_with told.aliases rtype ++ blackholes_at told.places

-- nothing is told
abbrev pub untold : Told
untold = record { places = []; aliases = [] }
