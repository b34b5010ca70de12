-- Files in memory: what they hold, which calls fail, and what a call of `read` does to them.
use Rattle.std.specs.Prelude.{ℕ, List, Bool, ◌||◌, if◌then◌else◌, Option, Some, None, is_none, refl}
use Rattle.std.specs.Option.{option_map, option_map_or}
use Rattle.std.specs.Ordering.{nat_cmp}
use Rattle.std.specs.Cmp.Lexicographic.{slice_cmp}
use Rattle.std.specs.Coded.{Coded, code_by, coded×, coded_ℕ, coded_list}
use Rattle.std.specs.FinMap as map
use Rattle.io_edges.specs.Counts.{risen, is_listed}
use Rattle.io_edges.specs.Files.{Told, all_told}

-- a file: its octets, and how many calls failed at it
pub record Stored : Type 0 where
  pub octets : List ℕ
  pub failures : ℕ

-- a file is stored as the pair of its fields
abbrev pub stored_code : Coded Stored
stored_code =
    code_by (List ℕ × ℕ) (coded× (coded_list coded_ℕ) coded_ℕ) (λ file. (file.octets, file.failures)) (λ pair. record { octets = pair.0; failures = pair.1 }) (λ _. refl)

-- files by name
abbrev pub FileMap : Type 0
FileMap = map.FinMap (slice_cmp nat_cmp) Stored

-- how files by name are coded as one plain value, and read back from it
abbrev pub file_map_code : Coded FileMap
file_map_code = map.code (coded_list coded_ℕ) stored_code

-- the octets under a name, if it is held
abbrev pub octets_at : FileMap → List ℕ → Option (List ℕ)
octets_at files name = option_map (λ file. file.octets) (map.get files name)

-- the files with this one, in the place of the one that had its name
abbrev pub with_octets : FileMap → List ℕ → List ℕ → ℕ → FileMap
with_octets files name octets failures = map.insert files name (record { octets = octets; failures = failures })

-- the files with one failure more at this one, where there is one
abbrev pub failed_once_more : FileMap → List ℕ → Option Stored → FileMap
failed_once_more files name None = files
failed_once_more files name (Some file) = with_octets files name file.octets (risen file.failures)

-- the files after one failure more at this name
abbrev pub with_failure : FileMap → List ℕ → FileMap
with_failure files name = failed_once_more files name (map.get files name)

-- files in memory
pub record FilesInMemory : Type 0 where
  -- the files
  pub files : FileMap
  -- how many calls failed at names that weren't held then
  pub absent : ℕ
  -- the numbers of the calls that fail, the first call being 1
  pub fails : List ℕ
  -- how many calls there were
  pub calls : ℕ

-- how files in memory are coded as one plain value, and read back from it
abbrev pub files_code : Coded FilesInMemory
files_code =
    code_by ((FileMap × ℕ) × (List ℕ × ℕ)) (coded× (coded× file_map_code coded_ℕ) (coded× (coded_list coded_ℕ) coded_ℕ))
    (λ m. ((m.files, m.absent), (m.fails, m.calls)))
    (λ p. record { files = p.0.0; absent = p.0.1; fails = p.1.0; calls = p.1.1 }) (λ _. refl)

-- what files in memory tell: all names, from the start
abbrev pub told_by : FilesInMemory → List ℕ → Told
told_by m = λ name. all_told (octets_at m.files name)

-- how many calls failed at a name: at its file, or at all absent names together
abbrev pub failures_of : FilesInMemory → List ℕ → ℕ
failures_of m name = option_map_or (λ file. file.failures) (map.get m.files name) m.absent

-- whether the next call fails, at this name: its number is listed, or the name isn't held
abbrev pub next_fails : FilesInMemory → List ℕ → Bool
next_fails m name = is_listed m.fails (risen m.calls) || is_none (map.get m.files name)

-- one failure more at this name: at its file, or at the absent names
abbrev pub after_failure : FilesInMemory → List ℕ → FilesInMemory
after_failure m name =
    record m { files = with_failure m.files name; absent = if is_none (map.get m.files name) then risen m.absent else m.absent }

-- the files in memory after one call more, at this name
abbrev pub after_call : FilesInMemory → List ℕ → FilesInMemory
after_call m name =
    let counted : FilesInMemory = record m { calls = risen m.calls } in
    if next_fails m name then after_failure counted name else counted

-- no file, and no call so far
abbrev pub no_files : List ℕ → FilesInMemory
no_files fails = record { files = map.empty; absent = 0; fails = fails; calls = 0 }

-- this file added, in the place of the one that had its name; each name keeps its count of failures
abbrev pub with_file : FilesInMemory → List ℕ → List ℕ → FilesInMemory
with_file m name octets = record m { files = with_octets m.files name octets (failures_of m name) }
