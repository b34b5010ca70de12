-- How a run over the files of a metadata file ends: for the contracts of calls alone that a program is made of.
use Rattle.std.specs.Prelude.{◌≡◌, ◌⊎◌, ℕ, List}
use Rattle.io_edges.specs.Counts.{Rose}
use Rattle.io_edges.specs.Files.{FilesTold}
use Rattle.config_load.specs.Load.{ComesToFile}
use Rattle.config_load.specs.Reading.{Reading, Refuses}
use Rattle.config_load.specs.declared.fault.LoadFault.{LoadFault}
use Rattle.config_load.specs.declared.fault.LoadFault.TheVariants.{Read, NoMemory}
use Rattle.run_endings.specs.declared.ending.Ending.{Ending}
use Rattle.run_endings.specs.Endings.{OfReading, read_failed, refused, no_memory}

-- a run ends so, or in a failed read of a file to which it comes and whose count rose, or because memory ran out
abbrev pub EndsOrFails : Type 0 → (List ℕ → Type 0) → (List ℕ → ℕ) → (List ℕ → ℕ) → Ending → Type 0
EndsOrFails EndsSo ComesTo before after ending =
    EndsSo
    ⊎ (((file : List ℕ) × (ending ≡ read_failed file) × ComesTo file × Rose (before file) (after file))
    ⊎ (ending ≡ no_memory))

-- how a run over the files of this metadata file ends, by what it gives of what was read
abbrev pub EndsOver : {T : Type 0} → List ℕ → (FilesTold → Reading T) → (T → Ending → Type 0) → FilesTold → (List ℕ → ℕ) → (List ℕ → ℕ) → Ending → Type 0
EndsOver meta reading of_value told before after ending =
    EndsOrFails (OfReading meta of_value (reading told) ending) (ComesToFile reading told) before after ending

-- how a run over the files of this metadata file ends if it gives nothing of what was read
abbrev pub EndsWithout : {T : Type 0} → List ℕ → (FilesTold → Reading T) → FilesTold → (List ℕ → ℕ) → (List ℕ → ℕ) → Ending → Type 0
EndsWithout meta reading told before after ending =
    EndsOrFails ((fault : LoadFault) × (reading told ≡ Refuses fault) × (ending ≡ refused meta fault)) (ComesToFile reading told) before after ending

-- the ending of a fault over the files of this metadata file
abbrev pub IsNotLoaded : List ℕ → LoadFault → Ending → Type 0
IsNotLoaded meta (Read file) ending = ending ≡ read_failed file
IsNotLoaded meta NoMemory ending = ending ≡ no_memory
IsNotLoaded meta fault ending = ending ≡ refused meta fault
