-- How a run ends: its status, the text for out and the line for err.
use Rattle.std.specs.Prelude.{◌≡◌, ℕ, Bool, true, false, List, [], ◌++◌, codes, decimal}
use Rattle.dns_data.specs.Name.{Labels}
use Rattle.dns_data.specs.Spelling.{name_text}
use Rattle.config_load.specs.Reading.{Reading, Reads, Refuses, Misses, Unknown}
use Rattle.config_load.specs.Refusal.{refusal_line}
use Rattle.config_load.specs.FileName.{shown_file}
use Rattle.config_load.specs.declared.fault.LoadFault.{LoadFault}
use Rattle.run_endings.specs.declared.ending.Ending.{Ending}
use Rattle.run_endings.specs.declared.status.Status.{Status}
use Rattle.run_endings.specs.declared.status.Status.TheVariants.{Clean, Faults, Usage, Refused, Classes, States, Walks, ReadFault, WriteFault, NoMemory}

-- the number of a status, as the program ends with it
abbrev pub status_number : Status → ℕ
status_number Clean = 0
status_number Faults = 1
status_number Usage = 2
status_number Refused = 3
status_number Classes = 4
status_number States = 4
status_number Walks = 4
status_number (ReadFault file) = 5
status_number WriteFault = 6
status_number NoMemory = 7

-- a status that says that nothing was written to out
abbrev pub writes_nothing : Status → Bool
writes_nothing Clean = false
writes_nothing Faults = false
writes_nothing WriteFault = false
writes_nothing answer = true

-- a text for out, and nothing for err
abbrev pub with_output : Status → List ℕ → Ending
with_output status text = record { status = status; out = text; err = [] }

-- nothing for out, and a line for err
abbrev pub without_output : Status → List ℕ → Ending
without_output status line = record { status = status; out = []; err = line }

-- the files of this metadata file are refused
abbrev pub refused : List ℕ → LoadFault → Ending
refused meta fault = without_output Refused (refusal_line meta fault)

-- a file could not be read
abbrev pub read_failed : List ℕ → Ending
read_failed file = without_output (ReadFault file) (shown_file file ++ codes ": read failed\n")

-- memory ran out
abbrev pub no_memory : Ending
no_memory = without_output NoMemory (codes "no memory\n")

-- the class tree has more names than this limit
abbrev pub too_many_names : ℕ → Ending
too_many_names limit = without_output Classes (codes "classes: more than " ++ (decimal limit ++ codes "\n"))

-- the query reaches more pairs of state and type than this limit
abbrev pub too_many_states : ℕ → Labels → Ending
too_many_states limit query =
    without_output States (codes "states: more than " ++ (decimal limit ++ (codes " for " ++ (name_text query ++ codes "\n"))))

-- the server's name has more walks than this limit, up to which they are followed to learn its address
abbrev pub too_many_to_learn : ℕ → Labels → Ending
too_many_to_learn limit server =
    without_output Walks (codes "walks: more than " ++ (decimal limit ++ (codes " for " ++ (name_text server ++ codes "\n"))))

-- What a command gives that reads the metadata file of this name and the files that it names, by what it gives of what was
-- read. Where a file isn't held, or nothing is told of it, it gives nothing: such a run ends in a failed read.
abbrev pub OfReading : {T : Type 0} → List ℕ → (T → Ending → Type 0) → Reading T → Ending → Type 0
OfReading meta of_value (Reads value) ending = of_value value ending
OfReading meta of_value (Refuses fault) ending = ending ≡ refused meta fault
OfReading meta of_value (Misses file) ending = ⊥
OfReading meta of_value (Unknown file) ending = ⊥
