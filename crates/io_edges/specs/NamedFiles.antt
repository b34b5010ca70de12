-- How a map of the program is seen as files by name.
use Rattle.std.specs.Prelude.{ℕ, List, String, map, string_bytes}
use Rattle.std.specs.FinMap as finite
use Rattle.io_edges.specs.declared.named_files.StoredFile.{StoredFile}
use Rattle.io_edges.specs.MemoryFiles.{Stored, FileMap}

-- what is seen of a stored file
abbrev pub stored : StoredFile → Stored
stored file = record { octets = file.octets; failures = file.failures }

-- what is seen of an entry
abbrev pub named : {A : Type 0} → String A × StoredFile → List ℕ × Stored
named entry = (string_bytes entry.0, stored entry.1)

-- the files of the entries of a map
abbrev pub files_by_name : {A : Type 0} → List (String A × StoredFile) → FileMap
files_by_name entries = finite.from_entries (map named entries)
