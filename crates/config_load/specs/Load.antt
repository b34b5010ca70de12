-- What loading answers.
use Rattle.std.specs.Prelude.{◌≡◌, ◌≢◌, ℕ, ◌⊎◌, nat_eq, List, Result, Ok, Err, if◌then◌else◌}
use lib.Pointwise.{pointwise}
use Rattle.io_edges.specs.Counts.{Rose}
use Rattle.io_edges.specs.Files.{FilesTold, Told, Untold, StaysTold}
use Rattle.config_load.specs.Conf.{conf}
use Rattle.config_load.specs.Reading.{Reading, Reads, Refuses, Misses, Unknown}
use Rattle.config_load.specs.declared.fault.LoadFault.{LoadFault}
use Rattle.config_load.specs.declared.fault.LoadFault.TheVariants.{Read, NoMemory}

-- what is told, but for this file, of which nothing is told
abbrev pub without : List ℕ → FilesTold → List ℕ → Told
without file told name = if pointwise nat_eq name file then Untold else told name

-- A reading comes to this file: if nothing were told of it, nothing more would be known. Each step before gives no
-- refusal and comes to no file that isn't held.
abbrev pub ComesToFile : {T : Type 0} → (FilesTold → Reading T) → FilesTold → List ℕ → Type 0
ComesToFile reading told file = reading (without file told) ≡ Unknown file

-- no count of a file rose to which this reading comes
abbrev pub NoFailureIn : {T : Type 0} → (FilesTold → Reading T) → FilesTold → (List ℕ → ℕ) → (List ℕ → ℕ) → Type 0
NoFailureIn reading told before after = (file : List ℕ) → ComesToFile reading told file → Rose (before file) (after file) → ⊥

-- no count of a file rose to which the reading of a metadata file and of the files that it names comes
abbrev pub NoReadFailed : List ℕ → FilesTold → (List ℕ → ℕ) → (List ℕ → ℕ) → Type 0
NoReadFailed meta = NoFailureIn (conf meta)

-- an answer is what the reading gives: what was read, or the refusal; a failed read and `NoMemory` are free
abbrev pub Gives : {T : Type 0} → Reading T → Result T LoadFault → Type 0
Gives reading (Ok value) = reading ≡ Reads value
Gives reading (Err (Read file)) = Unit {0}
Gives reading (Err NoMemory) = Unit {0}
Gives reading (Err fault) = reading ≡ Refuses fault

-- a failed read is of a file to which the reading comes
abbrev pub FailedWhereItCame : {T : Type 0} → (FilesTold → Reading T) → FilesTold → Result T LoadFault → Type 0
FailedWhereItCame reading told (Err (Read file)) = ComesToFile reading told file
FailedWhereItCame reading told result = Unit {0}

-- no other file is opened than those to which the reading comes: of any other name the same is told as before
abbrev pub OpensNoOther : {T : Type 0} → (FilesTold → Reading T) → FilesTold → FilesTold → Type 0
OpensNoOther reading before after = (file : List ℕ) → (after file ≡ before file) ⊎ ComesToFile reading after file

-- By what tells more a reading gives the same, unless it stopped at a name of which nothing was told and now something is.
abbrev pub IsSteady : {T : Type 0} → (FilesTold → Reading T) → Type 0
IsSteady reading =
    (told later : FilesTold) → StaysTold told later
    → (reading later ≡ reading told) ⊎ ((name : List ℕ) × (reading told ≡ Unknown name) × (told name ≡ Untold) × (later name ≢ Untold))

-- a failed read, or `NoMemory`
abbrev pub IsReadFault : {T : Type 0} → Result T LoadFault → Type 0
IsReadFault (Ok value) = ⊥
IsReadFault (Err (Read file)) = Unit {0}
IsReadFault (Err NoMemory) = Unit {0}
IsReadFault (Err fault) = ⊥

-- where no read failed, the answer to a reading, or `NoMemory`
abbrev pub IsAnswerTo : {T : Type 0} → Reading T → Result T LoadFault → Type 0
IsAnswerTo (Reads value) result = (result ≡ Ok value) ⊎ (result ≡ Err NoMemory)
IsAnswerTo (Refuses fault) result = (result ≡ Err fault) ⊎ (result ≡ Err NoMemory)
IsAnswerTo (Misses file) result = result ≡ Err NoMemory
IsAnswerTo (Unknown file) result = result ≡ Err NoMemory
