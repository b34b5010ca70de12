-- For the code alone, no public clause cites it: what is answered to the reading of reports, and what is told of that.
use Rattle.std.specs.Prelude.{◌≡◌, ℕ, List, [], codes, Result, Ok, Err}
use Rattle.config_load.specs.declared.fault.LoadFault.{LoadFault}
use Rattle.run_endings.specs.Ends.{IsNotLoaded}
use Rattle.run_endings.specs.declared.ending.Ending.{Ending}
use Rattle.parts_run.specs.Outcome.{refused_as}
use Rattle.parts_run.specs.declared.fault.ReadFault.{ReadFault}
use Rattle.parts_run.specs.declared.fault.ReadFault.TheVariants.{NotReport, Load}

-- an answer, by what its value tells: a file without a report is something that is read
abbrev pub answered : {A B : Type 0} → (A → B) → Result A ReadFault → Result (Result B (List ℕ)) LoadFault
answered told (Ok value) = Ok (Ok (told value))
answered told (Err (NotReport file)) = Ok (Err file)
answered told (Err (Load fault)) = Err fault

-- the ending of reports that aren't read
abbrev pub IsNotRead : ReadFault → Ending → Type 0
IsNotRead (NotReport file) ending = ending ≡ refused_as file (codes "not-part-report")
IsNotRead (Load fault) ending = IsNotLoaded [] fault ending
