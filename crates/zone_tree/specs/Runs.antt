-- Records of one owner that stand one behind the other, with the key of that owner. The contracts of inner calls alone cite
-- it.
use Rattle.std.specs.Prelude.{◌≡◌, List, ◌∷◌, map, All}
use Rattle.std.specs.Ordering.{nat_cmp, ordering_then}
use Rattle.std.specs.declared.cmp.Ordering.{Ordering}
use Rattle.dns_data.specs.Name.{Labels, name_cmp}
use Rattle.dns_data.specs.declared.rdata.Rdata.{Rdata}
use Rattle.dns_data.specs.declared.rdata.Rr.{Rr}
use Rattle.name_table.specs.Keys.{IsKeyBelow}
use Rattle.zone_tree.specs.declared.runs.KeyedRun.{KeyedRun}

-- the owner of a run's first record
abbrev pub owner_of : KeyedRun → Labels
owner_of run = run.first.now.owner

-- the records of a run, in file order
abbrev pub records_in : KeyedRun → List Rr
records_in run = run.first.now ∷ run.rest.now

-- and their data
abbrev pub data_of_run : KeyedRun → List Rdata
data_of_run run = map (λ rr. rr.rdata) (records_in run)

-- the records of the run have one owner, and the key is that of this owner below the origin
pub record IsKeyedRun (origin : Labels) (run : KeyedRun) : Type 0 where
  pub key : IsKeyBelow origin (owner_of run) run.key
  pub one_owner : All (λ rr. rr.owner ≡ owner_of run) run.rest.now

-- the order of keyed runs: by their keys, and where these are one by their owners
abbrev pub keyed_cmp : KeyedRun → KeyedRun → Ordering
keyed_cmp a b = ordering_then (nat_cmp a.key b.key) (name_cmp (owner_of a) (owner_of b))
