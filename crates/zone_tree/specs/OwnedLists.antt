-- What the names of a tree own, in a few lists for all of them. The contracts of inner calls alone cite it.
use Rattle.std.specs.Prelude.{◌≡◌, ℕ, ◌-◌, ◌≤◌, List, [], ◌∷◌, ◌++◌, All, map, length, take, drop, slice_index_or}
use Rattle.dns_data.specs.declared.rdata.Rdata.{Rdata}
use Rattle.dns_data.specs.declared.rr_type.RrType.{RrType}
use Rattle.zone_tree.specs.Records.{OwnedRecords, Set, TellsData, IsRecordSetOf}
use Rattle.zone_tree.specs.declared.owned_lists.OwnedLists.{OwnedLists}
use Rattle.zone_tree.specs.declared.owned_lists.OwnedParts.{OwnedParts}
use Rattle.zone_tree.specs.declared.owned_lists.Part.{Part}
use Rattle.zone_tree.specs.declared.owned_lists.RecordSet.{RecordSet}

-- the items of a part of a list
abbrev pub part_of : {A : Type 0} → List A → Part → List A
part_of items part = take (part.end - part.start) (drop part.start items)

-- the part lies within the list
pub record IsPartOf {A : Type 0} (items : List A) (part : Part) : Type 0 where
  pub ordered : part.start ≤ part.end
  pub within : part.end ≤ length items

-- the second list begins with the items of the first
abbrev pub IsFront : {A : Type 0} → List A → List A → Type 0
IsFront {A = A} front all = (more : List A) × (all ≡ front ++ more)

-- the set with its data, where there are several, from among those of all names
abbrev pub set_of : List Rdata → RecordSet → Set
set_of several set = record { rtype = set.rtype; first = set.first; several = part_of several set.several }

-- what a name owns, written out
abbrev pub owned_by : OwnedLists → OwnedParts → OwnedRecords
owned_by lists own = record {
  types = own.types;
  servers = part_of lists.servers.items own.servers;
  sets = map (set_of lists.several.items) (part_of lists.sets.items own.sets);
}

-- nothing, as what a name owns
abbrev pub no_parts : OwnedParts
no_parts = record { types = []; servers = record { start = 0; end = 0 }; sets = record { start = 0; end = 0 } }

-- what the name at a place of the lists owns, written out
abbrev pub owned_at : OwnedLists → ℕ → OwnedRecords
owned_at lists place = owned_by lists (slice_index_or lists.names.items place no_parts)

-- the parts of what a name owns lie within their lists
pub record IsWithin (lists : OwnedLists) (own : OwnedParts) : Type 0 where
  pub servers : IsPartOf lists.servers.items own.servers
  pub sets : IsPartOf lists.sets.items own.sets
  pub several : All (λ set. IsPartOf lists.several.items set.several) (part_of lists.sets.items own.sets)

-- the second lists begin with the items of the first
pub record HaveGrown (old new : OwnedLists) : Type 0 where
  pub names : IsFront old.names.items new.names.items
  pub sets : IsFront old.sets.items new.sets.items
  pub several : IsFront old.several.items new.several.items
  pub servers : IsFront old.servers.items new.servers.items

-- what tells of all data of a name stands behind the others, at the place
pub record IsPut (all : List Rdata) (old new : OwnedLists) (place : ℕ) : Type 0 where
  pub grown : HaveGrown old new
  pub own : OwnedParts
  pub names : new.names.items ≡ old.names.items ++ own ∷ []
  pub at : place ≡ length old.names.items
  pub within : IsWithin new own
  pub tells : TellsData all (owned_by new own)

-- the set is that of a type among all data, and its part lies within
pub record IsPutSet (all : List Rdata) (rtype : RrType) (several : List Rdata) (set : RecordSet) : Type 0 where
  pub same : set.rtype ≡ rtype
  pub within : IsPartOf several set.several
  pub tells : IsRecordSetOf all (set_of several set)
