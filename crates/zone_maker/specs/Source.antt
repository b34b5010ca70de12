-- The files of a drill, as files that are read: no call fails, and a name that none of them has reads as an empty file.
use Rattle.std.specs.Prelude.{◌≡◌, ℕ, List, []}
use Rattle.io_edges.specs.Files.{Told, Untold, NotHeld, Holds}
use Rattle.io_edges.specs.MemoryFiles.{FilesInMemory, told_by}
use Rattle.zone_maker.specs.Drill.{drill}

-- an empty file in the place of one that isn't held
abbrev pub held : Told → Told
held Untold = Untold
held NotHeld = Holds []
held (Holds octets) = Holds octets

-- what files in memory tell of each name: its octets, or none for a name that no file has
abbrev pub told_of : FilesInMemory → List ℕ → Told
told_of files = λ name. held (told_by files name)

-- no call failed at a name
abbrev pub no_failures : FilesInMemory → List ℕ → ℕ
no_failures files = λ name. 0

-- no call is to fail
abbrev pub NoneListed : FilesInMemory → Type 0
NoneListed files = files.fails ≡ []

-- what the files of a drill tell
abbrev pub drill_told : ℕ → List ℕ → Told
drill_told zones = told_of (drill zones)
