-- How far a reading has come, by what is told so far: for the contracts of inner calls alone.
use Rattle.std.specs.Prelude.{◌≡◌, ◌≢◌, ℕ, ◌⊎◌, List, Result, Ok, Err}
use Rattle.io_edges.specs.Files.{FilesTold, Untold}
use Rattle.config_load.specs.Reading.{Reading, Reads, Refuses, Unknown}
use Rattle.config_load.specs.declared.fault.LoadFault.{LoadFault}
use Rattle.config_load.specs.declared.fault.LoadFault.TheVariants.{Read, NoMemory}

-- a reading, by what is told
abbrev pub ByTold : Type 0 → Type 0
ByTold A = FilesTold → Reading A

-- for each name of which something is told, the other tells the same or nothing
abbrev pub TellsNoOther : FilesTold → FilesTold → Type 0
TellsNoOther told other = (name : List ℕ) → (told name ≡ Untold) ⊎ ((other name ≡ told name) ⊎ (other name ≡ Untold))

-- the reading stops at a name of which something is told, but nothing by the other
abbrev pub StopsEarly : {A : Type 0} → FilesTold → FilesTold → Reading A → Type 0
StopsEarly told other reading = (name : List ℕ) × (reading ≡ Unknown name) × (other name ≡ Untold) × (told name ≢ Untold)

-- what is told takes the first reading to the second, also by what tells no other, unless that stops early
abbrev pub Follows : {A : Type 0} → FilesTold → ByTold A → ByTold A → Type 0
Follows told first second =
    (other : FilesTold) → TellsNoOther told other → (first other ≡ second other) ⊎ StopsEarly told other (first other)

-- what is told takes the reading to this file
abbrev pub Reaches : {A : Type 0} → FilesTold → ByTold A → List ℕ → Type 0
Reaches told reading file =
    (other : FilesTold) → TellsNoOther told other → other file ≡ Untold
    → (reading other ≡ Unknown file) ⊎ StopsEarly told other (reading other)

-- of each name the same is told as before, unless what is told now takes the reading to it
abbrev pub OpensWhereItComes : {A : Type 0} → FilesTold → FilesTold → ByTold A → Type 0
OpensWhereItComes before after reading = (name : List ℕ) → (after name ≡ before name) ⊎ Reaches after reading name

-- an answer is what the reading gives, where it is no failed read; a failed read is of a file to which the reading is
-- taken
abbrev pub Answers : {A : Type 0} → FilesTold → ByTold A → Result A LoadFault → Type 0
Answers told reading (Ok value) = Follows told reading (λ _. Reads value)
Answers told reading (Err (Read file)) = Reaches told reading file
Answers told reading (Err NoMemory) = Unit {0}
Answers told reading (Err fault) = Follows told reading (λ _. Refuses fault)
