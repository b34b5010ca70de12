-- The records of a zone in the order of their owners. The contracts of inner calls alone cite it.
use Rattle.std.specs.Prelude.{◌≡◌, ℕ, suc, true, List, [], ◌∷◌, ◌↔◌, map, Contains, IsSorted, if◌then◌else◌}
use Rattle.std.specs.List.{filter, flat_map}
use Rattle.dns_data.specs.Name.{Labels, name_eq, name_cmp, is_prefix}
use Rattle.dns_data.specs.declared.rdata.Rdata.{Rdata}
use Rattle.net_model.specs.declared.config.Zone.{Zone}
use Rattle.zone_tree.specs.Records.{data_of}
use Rattle.zone_tree.specs.Runs.{data_of_run, owner_of}
use Rattle.zone_tree.specs.declared.runs.KeyedRun.{KeyedRun}

-- all data of a name among runs, in their order
abbrev pub data_of_runs : List KeyedRun → Labels → List Rdata
data_of_runs runs name = flat_map data_of_run (filter (λ run. name_eq (owner_of run) name) runs)

-- the runs are those of the records at or below the origin in the order of their owners, those of one owner in file order
pub record AreByOwner (zone : Zone) (runs : List KeyedRun) : Type 0 where
  pub owners : (name : Labels) → Contains (map owner_of runs) name
      ↔ (Contains (map (λ rr. rr.owner) zone.rrs) name × (is_prefix zone.origin name ≡ true))
  pub sorted : IsSorted name_cmp (map owner_of runs)
  pub in_file_order : (name : Labels) → is_prefix zone.origin name ≡ true → data_of_runs runs name ≡ data_of zone.rrs name

-- how many names at the front are this one
abbrev pub leading : Labels → List Labels → ℕ
leading name [] = 0
leading name (first ∷ names) = if name_eq first name then suc (leading name names) else 0
