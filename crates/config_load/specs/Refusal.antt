-- Refusals: the file, the line in it (or 0), and the code. Of a failed read and of `NoMemory` nothing is said here:
-- they are no refusals, and what stands below for them is never printed.
use Rattle.std.specs.Prelude.{ℕ, List, ◌++◌, codes, decimal}
use Rattle.master_read.specs.Codes.{text_code}
use Rattle.meta_read.specs.Codes.{meta_code}
use Rattle.meta_read.specs.declared.fault.MetaFault.{MetaFault}
use Rattle.meta_read.specs.declared.fault.MetaFault.TheVariants as meta_faults
use Rattle.zone_rules.specs.Codes.{rule_code}
use Rattle.config_load.specs.FileName.{shown_file}
use Rattle.config_load.specs.declared.fault.LoadFault.{LoadFault}
use Rattle.config_load.specs.declared.fault.LoadFault.TheVariants.{Read, TooLong, Meta, Text, Rule, ZoneTwice, NoMemory}

-- the number of the metadata's row in which a fault stands, or 0
abbrev pub row_of : MetaFault → ℕ
row_of (meta_faults.Shape row) = row
row_of (meta_faults.BadName row) = row
row_of fault = 0

-- the file in which a fault stands: that of the metadata where it is in no other
abbrev pub file_of : List ℕ → LoadFault → List ℕ
file_of meta (Read file) = file
file_of meta (TooLong file) = file
file_of meta (Meta fault) = meta
file_of meta (Text file line cause) = file
file_of meta (Rule file line cause) = file
file_of meta (ZoneTwice row) = meta
file_of meta NoMemory = meta

-- the line in a zone file, or the number of the metadata's row, both counted from 1, or 0
abbrev pub line_told : LoadFault → ℕ
line_told (Read file) = 0
line_told (TooLong file) = 0
line_told (Meta fault) = row_of fault
line_told (Text file line cause) = line
line_told (Rule file line cause) = line
line_told (ZoneTwice row) = row
line_told NoMemory = 0

-- the code of a fault in reading a configuration, the word that is printed for it
abbrev pub code_of : LoadFault → List ℕ
code_of (Read file) = codes "read-failed"
code_of (TooLong file) = codes "too-long"
code_of (Meta fault) = meta_code fault
code_of (Text file line cause) = text_code cause
code_of (Rule file line cause) = rule_code cause
code_of (ZoneTwice row) = codes "zone-twice"
code_of NoMemory = codes "no-memory"

-- a file, a line in it and a code, as a line on err
abbrev pub fields_line : List ℕ → List ℕ → List ℕ → List ℕ
fields_line file line code = shown_file file ++ (codes ":" ++ (line ++ (codes ": " ++ (code ++ codes "\n"))))

-- the line on err of a refusal
abbrev pub refusal_line : List ℕ → LoadFault → List ℕ
refusal_line meta fault = fields_line (file_of meta fault) (decimal (line_told fault)) (code_of fault)
