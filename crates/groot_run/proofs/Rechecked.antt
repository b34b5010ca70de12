-- A report that is read behind a configuration.
use Rattle.std.proofs.Common.{◌≡◌, ◌≢◌, ℕ, ◌⊎◌, List, Result, Ok, Err, sym, subst, inl, inr}
use Rattle.config_load.specs.Faults.{FailedAt}
use Rattle.config_load.specs.Load.{ComesToFile, FailedWhereItCame, Gives}
use Rattle.config_load.specs.Reading.{Reading, Reads, file_octets}
use Rattle.config_load.specs.declared.fault.LoadFault.{LoadFault}
use Rattle.config_load.specs.declared.fault.LoadFault.TheVariants as load_faults
use Rattle.config_load.specs.declared.limits.Limits.{Limits}
use Rattle.io_edges.specs.Files.{FilesTold}
use Rattle.net_model.specs.declared.config.Config.{Config}
use Rattle.report_check.specs.Checked.{IsChecked}
use Rattle.report_check.specs.declared.answer.Checked.{Checked}
use Rattle.report_check.specs.declared.answer.CheckFault.{CheckFault}
use Rattle.report_check.specs.declared.answer.CheckFault.TheVariants as check_faults
use Rattle.run_endings.specs.Ends.{EndsOrFails, IsNotLoaded}
use Rattle.run_endings.specs.Endings.{OfReading, no_memory}
use Rattle.groot_run.specs.Outcome.{answered_to, IsRechecked}
use Rattle.run_endings.specs.declared.ending.Ending.{Ending}

-- what is said of entries is no `NoMemory`
pub answers : (checked : Checked) → (let answer : Result Checked CheckFault = Ok checked in answer ≢ Err check_faults.NoMemory)
answers checked e = cc

-- the run ends by the answer to a report, unless memory ran out for its line
pub by_answer : (file : List ℕ) (config : Config) (octets : List ℕ) (result answer : Result Checked CheckFault) (ending : Ending) → result ≡ answer → answer ≢ Err check_faults.NoMemory
    → IsChecked config octets result → (ending ≡ answered_to file answer) ⊎ (ending ≡ no_memory) → IsRechecked file config octets ending ⊎ (ending ≡ no_memory)
by_answer file config octets result answer ending is answered checked (inl line) =
    inl (record { answer = answer; is_checked = subst (IsChecked config octets) is checked; is_answered = answered; as_line = line })
by_answer file config octets result answer ending is answered checked (inr ran_out) = inr ran_out

-- how a run ends over a file within these limits
abbrev pub EndsWithin : FilesTold → (List ℕ → ℕ) → (List ℕ → ℕ) → List ℕ → (List ℕ → Ending → Type 0) → Ending → Limits → Type 0
EndsWithin told before after file of_octets ending limits =
    EndsOrFails (OfReading file of_octets (file_octets limits file told) ending) (ComesToFile (file_octets limits file) told) before after ending

-- the file is read, and the run ends by its octets
pub over_file : (limits : Limits) (told : FilesTold) (before after : List ℕ → ℕ) (name octets : List ℕ) (of_octets : List ℕ → Ending → Type 0) (ending : Ending)
    → file_octets limits name told ≡ Reads octets → of_octets octets ending ⊎ (ending ≡ no_memory)
    → EndsWithin told before after name of_octets ending limits
over_file limits told before after name octets of_octets ending reads (inl ends) =
    inl (subst (λ (read : Reading (List ℕ)). OfReading name of_octets read ending) (sym reads) ends)
over_file limits told before after name octets of_octets ending reads (inr ran_out) = inr (inr ran_out)

-- if the file isn't read, the run ends by the fault
pub over_no_file : (limits : Limits) (told : FilesTold) (before after : List ℕ → ℕ) (name : List ℕ) (of_octets : List ℕ → Ending → Type 0) (fault : LoadFault) (ending : Ending)
    → Gives {T = List ℕ} (file_octets limits name told) (Err fault) → FailedWhereItCame {T = List ℕ} (file_octets limits name) told (Err fault) → FailedAt {T = List ℕ} before after (Err fault)
    → IsNotLoaded name fault ending ⊎ (ending ≡ no_memory)
    → EndsWithin told before after name of_octets ending limits
over_no_file limits told before after name of_octets fault ending gives came failed (inr ran_out) = inr (inr ran_out)
over_no_file limits told before after name of_octets (load_faults.Read file) ending gives came failed (inl is) = inr (inl (file, is, came, failed))
over_no_file limits told before after name of_octets load_faults.NoMemory ending gives came failed (inl is) = inr (inr is)
over_no_file limits told before after name of_octets fault ending gives came failed (inl is) =
    inl (subst (λ (read : Reading (List ℕ)). OfReading name of_octets read ending) (sym gives) is)
