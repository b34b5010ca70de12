-- What a name owns, as a tree keeps it. The contracts of inner calls alone cite it.
use Rattle.std.specs.Prelude.{◌≡◌, ◌<◌, false, List, [], ◌∷◌, All, map, length}
use Rattle.std.specs.List.{filter}
use Rattle.dns_data.specs.Rdata.{has_type}
use Rattle.dns_data.specs.RrType.{types, type_eq}
use Rattle.dns_data.specs.declared.rdata.Rdata.{Rdata}
use Rattle.dns_data.specs.declared.rr_type.RrType.{RrType}
use Rattle.zone_tree.specs.OwnedLists.{owned_at, IsWithin, HaveGrown}
use Rattle.zone_tree.specs.Records.{OwnedRecords, TellsData}
use Rattle.zone_tree.specs.declared.owned_data.OwnedForm.{OwnedForm}
use Rattle.zone_tree.specs.declared.owned_data.OwnedForm.TheVariants.{Nothing, OneDatum, Whole}
use Rattle.zone_tree.specs.declared.owned_lists.OwnedLists.{OwnedLists}

-- what tells of the records, written out: the types as a bit for each of the twelve, and the set of the one datum
abbrev pub written_out : OwnedLists → OwnedForm → OwnedRecords
written_out lists Nothing = record { types = map (λ other. false) types; servers = []; sets = [] }
written_out lists (OneDatum rtype rdata) = record {
  types = map (type_eq rtype) types;
  servers = [];
  sets = record { rtype = rtype; first = rdata; several = [] } ∷ [];
}
written_out lists (Whole place) = owned_at lists place

-- the place of the form is one of the lists
abbrev pub IsFormWithin : OwnedLists → OwnedForm → Type 0
IsFormWithin lists Nothing = Unit {0}
IsFormWithin lists (OneDatum rtype rdata) = Unit {0}
IsFormWithin lists (Whole place) = place < length lists.names.items

-- the form tells of all data of a name, for which something stands behind the others, or nothing
pub record IsFormPut (all : List Rdata) (old new : OwnedLists) (form : OwnedForm) : Type 0 where
  pub grown : HaveGrown old new
  pub lists : All (IsWithin old) old.names.items → All (IsWithin new) new.names.items
  pub within : IsFormWithin new form
  pub tells : TellsData all (written_out new form)

-- of each type both have the same data, in the same order
pub record HaveSameData (all some : List Rdata) : Type 0 where
  pub each : (rtype : RrType) → filter (has_type rtype) all ≡ filter (has_type rtype) some
