-- What a run leaves on its outputs.
use Rattle.std.specs.Prelude.{◌≡◌, ◌≢◌, ℕ, ◌⊎◌, List, [], ◌++◌, codes, Option}
use Rattle.std.specs.Io.KnownBytes.{Appends}
use Rattle.io_edges.specs.Counts.{Rose}
use Rattle.io_edges.specs.Passed.{PassedFront}
use Rattle.run_endings.specs.declared.ending.Ending.{Ending}
use Rattle.run_endings.specs.declared.status.Status.TheVariants.{WriteFault}
use Rattle.run_endings.specs.Endings.{without_output}

-- a sink took a proper front of a text: not all of it
pub record TookProperFront (before after : Option (List ℕ)) (text : List ℕ) : Type 0 where
  pub front : List ℕ
  pub rest : List ℕ
  pub splits : text ≡ front ++ rest
  pub some_left : rest ≢ []
  pub taken : Appends before after front

-- a sink took a whole text; or its count rose, and it took a proper front of it
abbrev pub TookLine : Option (List ℕ) → Option (List ℕ) → ℕ → ℕ → List ℕ → Type 0
TookLine before after failed_before failed_after text =
    Appends before after text ⊎ (Rose failed_before failed_after × TookProperFront before after text)

-- the output could not be written
abbrev pub output_failed : Ending
output_failed = without_output WriteFault (codes "output failed\n")

-- How a run is left that is to end so: as it is to end, where out took the whole text; or out's count rose, and out took
-- a proper front of the text.
abbrev pub IsLeft : Ending → Option (List ℕ) → Option (List ℕ) → ℕ → ℕ → Ending → Type 0
IsLeft ending before after failed_before failed_after left =
    ((left ≡ ending) × Appends before after ending.out)
    ⊎ ((left ≡ output_failed) × Rose failed_before failed_after × TookProperFront before after ending.out)

-- a sink passed on a whole text; or its count rose, and it passed on a front of it
abbrev pub PassedLine : Option (List ℕ) → Option (List ℕ) → ℕ → ℕ → List ℕ → Type 0
PassedLine before after failed_before failed_after text =
    Appends before after text ⊎ (Rose failed_before failed_after × PassedFront before after text)

-- What out passed on of a run that is to end so, and how the run is left: as it is to end, where out passed on the whole
-- text; or out's count rose, and out passed on a front of the text.
abbrev pub IsPassedOn : Ending → Option (List ℕ) → Option (List ℕ) → ℕ → ℕ → Ending → Type 0
IsPassedOn ending before after failed_before failed_after left =
    ((left ≡ ending) × Appends before after ending.out)
    ⊎ ((left ≡ output_failed) × Rose failed_before failed_after × PassedFront before after ending.out)
