-- Files of a drill that are read.
use Rattle.std.proofs.Common.{◌≡◌, ◌≢◌, ℕ, List, [], ◌∷◌, Option, Some, None, refl}
use Rattle.io_edges.specs.Files.{Untold, TellsAll, all_told}
use Rattle.io_edges.specs.MemoryFiles.{FilesInMemory, no_files, octets_at, with_file}
use Rattle.zone_maker.specs.Drill.{drill, drill_files, with_files}
use Rattle.zone_maker.specs.Source.{NoneListed, drill_told, held}

-- files that are put in leave the calls that are to fail
with_files_fails : (files : FilesInMemory) (more : List (List ℕ × List ℕ)) → (with_files files more).fails ≡ files.fails
with_files_fails files [] = refl
with_files_fails files ((name, text) ∷ more) = with_files_fails (with_file files name text) more

-- in the files of a drill no call is to fail
pub drill_none_listed : (zones : ℕ) → NoneListed (drill zones)
drill_none_listed zones = with_files_fails (no_files []) (drill_files zones)

-- something is told of every name
pub drill_tells_all : (zones : ℕ) → TellsAll (drill_told zones)
drill_tells_all zones name = by (octets_at (drill zones).files name) where
  by : (octets : Option (List ℕ)) → held (all_told octets) ≢ Untold
  by None = λ e. cc
  by (Some octets) = λ e. cc
