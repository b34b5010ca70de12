-- What a name owns. The contracts of inner calls alone cite it.
use Rattle.std.specs.Prelude.{◌≡◌, ℕ, ◌<◌, Bool, true, ◌||◌, List, [], ◌∷◌, map, length, slice_index_or, Option, Some, None, if◌then◌else◌}
use Rattle.std.specs.Borrow.{Bor}
use Rattle.std.specs.List.{filter, filter_map, list_any, AllByRecursion}
use Rattle.dns_data.specs.Name.{Labels, name_eq, name_cmp}
use Rattle.dns_data.specs.Rdata.{has_type}
use Rattle.dns_data.specs.RrType.{type_eq}
use Rattle.dns_data.specs.TypeSet.{has_bit}
use Rattle.dns_data.specs.declared.rdata.Rdata.{Rdata}
use Rattle.dns_data.specs.declared.rdata.Rr.{Rr}
use Rattle.dns_data.specs.declared.rr_type.RrType.{RrType}
use Rattle.dns_data.specs.declared.rr_type.RrType.TheVariants as rr_type
use Rattle.net_model.specs.declared.config.Zone.{Zone}
use Rattle.net_model.specs.Order.{in_order}
use Rattle.net_model.specs.Zone.{target_of, data_cmp}
use Rattle.zone_tree.specs.Names.{AreExisting}

-- the data of a type: the first in file order, and where there are several all of them
pub record Set : Type 0 where
  pub rtype : RrType
  pub first : Bor Rdata
  pub several : List Rdata

-- what a name owns: its types, its name servers, and the data of each type
pub record OwnedRecords : Type 0 where
  pub types : List Bool
  pub servers : List (Bor Labels)
  pub sets : List Set

-- all data of a name among records, in their order
abbrev pub data_of : List Rr → Labels → List Rdata
data_of rrs name = map (λ rr. rr.rdata) (filter (λ rr. name_eq rr.owner name) rrs)

-- the targets of a type among data, in their order
abbrev pub targets_of : List Rdata → RrType → List Labels
targets_of all rtype = filter_map target_of (filter (has_type rtype) all)

-- one datum, or all where there are several
abbrev pub all_of : Rdata → List Rdata → List Rdata
all_of first [] = first ∷ []
all_of first (one ∷ more) = one ∷ more

-- the data of a set: the first, or all where there are several
abbrev pub all_in : Set → List Rdata
all_in set = all_of set.first.now set.several

-- the data of a type among sets
abbrev pub data_in : List Set → RrType → List Rdata
data_in [] rtype = []
data_in (set ∷ sets) rtype = if type_eq set.rtype rtype then all_in set else data_in sets rtype

-- the first data of a type among sets
abbrev pub first_in : List Set → RrType → Option Rdata
first_in [] rtype = None
first_in (set ∷ sets) rtype = if type_eq set.rtype rtype then Some set.first.now else first_in sets rtype

-- the first of some data
abbrev pub first_of : List Rdata → Option Rdata
first_of [] = None
first_of (one ∷ more) = Some one

-- the types are those of all data
abbrev pub TellsTypes : List Rdata → List Bool → Type 0
TellsTypes all types = (rtype : RrType) → has_bit types rtype ≡ list_any (has_type rtype) all

-- the set is that of its type among all data
pub record IsRecordSetOf (all : List Rdata) (set : Set) : Type 0 where
  pub first : first_of (filter (has_type set.rtype) all) ≡ Some set.first.now
  pub whole : all_in set ≡ in_order data_cmp (filter (has_type set.rtype) all)

-- the sets are those of their types, and each type that has data, but for the types left, has one
pub record AreRecordSets (all : List Rdata) (left : List RrType) (sets : List Set) : Type 0 where
  pub each : AllByRecursion (IsRecordSetOf all) sets
  pub every : (rtype : RrType) → list_any (has_type rtype) all ≡ true
      → (list_any (λ other. type_eq other rtype) left || list_any (λ set. type_eq set.rtype rtype) sets) ≡ true

-- the records tell of all data of a name
pub record TellsData (all : List Rdata) (records : OwnedRecords) : Type 0 where
  pub types : TellsTypes all records.types
  pub servers : map (λ server. server.now) records.servers ≡ in_order name_cmp (targets_of all rr_type.Ns)
  pub sets : AreRecordSets all [] records.sets

-- the names are those that exist in the zone, and beside each stands what tells of its data
pub record IsTree (zone : Zone) (names : List Labels) (records : List OwnedRecords) : Type 0 where
  pub existing : AreExisting zone names
  pub many : length records ≡ length names
  pub each : (k : ℕ) (d : OwnedRecords) → k < length names → TellsData (data_of zone.rrs (slice_index_or names k [])) (slice_index_or records k d)
