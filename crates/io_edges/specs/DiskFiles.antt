-- Files on a disk: which were read, and how many calls failed.
use Rattle.std.specs.Prelude.{ℕ, List, Option, Some, None, refl}
use Rattle.std.specs.Coded.{Coded, code_by, coded×, coded_ℕ}
use Rattle.io_edges.specs.Files.{Told, read_told}
use Rattle.io_edges.specs.MemoryFiles.{FileMap, file_map_code, octets_at}

-- files on a disk
pub record FilesOnDisk : Type 0 where
  -- the files that were read
  pub files : FileMap
  -- how many calls failed, at any name
  pub failures : ℕ

-- how files on a disk are coded as one plain value, and read back from it
abbrev pub disk_code : Coded FilesOnDisk
disk_code =
    code_by (FileMap × ℕ) (coded× file_map_code coded_ℕ) (λ d. (d.files, d.failures)) (λ p. record { files = p.0; failures = p.1 }) (λ _. refl)

-- the files that were read: those that are kept, or those that were kept when all octets were let go of
abbrev pub files_read : FileMap → Option FileMap → FileMap
files_read kept None = kept
files_read kept (Some let_go) = let_go

-- what is told of the files that were read
abbrev pub told_of_read : FileMap → List ℕ → Told
told_of_read files = λ name. read_told (octets_at files name)

-- what files on a disk tell: the names that were read
abbrev pub told_by_disk : FilesOnDisk → List ℕ → Told
told_by_disk d = told_of_read d.files
