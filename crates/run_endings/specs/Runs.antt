-- What a run does that ends in an outcome of its job, whatever program runs it. A program gives two things: the outcomes of
-- the job, by what is told of the files, and the files to which the job comes.
use Rattle.std.specs.Prelude.{◌≡◌, ◌≢◌, ℕ, ◌⊎◌, List, [], Option, IsTrue}
use Rattle.std.specs.Io.KnownBytes.{Appends, Keeps}
use Rattle.io_edges.specs.Counts.{Rose}
use Rattle.io_edges.specs.Files.{FilesTold, TellsAll}
use Rattle.run_endings.specs.declared.ending.Ending.{Ending}
use Rattle.run_endings.specs.declared.status.Status.{Status}
use Rattle.run_endings.specs.declared.status.Status.TheVariants.{ReadFault, WriteFault, NoMemory}
use Rattle.run_endings.specs.Endings.{read_failed, no_memory, writes_nothing}
use Rattle.run_endings.specs.Writing.{IsLeft, IsPassedOn, TookLine, PassedLine, output_failed}

-- the files of a run: what is told of them, and how many calls failed at each, before the run and after it
pub record FilesOfRun : Type 0 where
  pub told_before : FilesTold
  pub told_after : FilesTold
  pub failed_before : List ℕ → ℕ
  pub failed_after : List ℕ → ℕ

-- an output of a run: what it took, what it passed on, and how many calls failed, before the run and after it
pub record OutputOfRun : Type 0 where
  pub taken_before : Option (List ℕ)
  pub taken_after : Option (List ℕ)
  pub passed_before : Option (List ℕ)
  pub passed_after : Option (List ℕ)
  pub failed_before : ℕ
  pub failed_after : ℕ

-- the files of a run, by what is told of them and how many calls failed, in their two states
abbrev pub files_of : {F : Type 0} → (F → FilesTold) → (F → List ℕ → ℕ) → F → F → FilesOfRun
files_of told failed before after =
    record { told_before = told before; told_after = told after; failed_before = failed before; failed_after = failed after }

-- an output of a run, by what it took, what it passed on and how many calls failed, in its two states
abbrev pub output_of : {O : Type 0} → (O → Option (List ℕ)) → (O → Option (List ℕ)) → (O → ℕ) → O → O → OutputOfRun
output_of taken passed failed before after =
    record {
      taken_before = taken before;
      taken_after = taken after;
      passed_before = passed before;
      passed_after = passed after;
      failed_before = failed before;
      failed_after = failed after;
    }

-- no call of the output failed
abbrev pub NoneFailed : OutputOfRun → Type 0
NoneFailed output = Rose output.failed_before output.failed_after → ⊥

-- the output took exactly this text, and passed exactly it on
abbrev pub GotText : OutputOfRun → List ℕ → Type 0
GotText output text =
    Appends output.taken_before output.taken_after text × Appends output.passed_before output.passed_after text

-- the output got nothing: it took nothing, and passed nothing on
abbrev pub GotNothing : OutputOfRun → Type 0
GotNothing output = Keeps output.taken_before output.taken_after × Keeps output.passed_before output.passed_after

-- what is left on out of a run that is to end so, and how the run is left
abbrev pub IsLeftOn : OutputOfRun → Ending → Ending → Type 0
IsLeftOn output ending left =
    IsLeft ending output.taken_before output.taken_after output.failed_before output.failed_after left
    × IsPassedOn ending output.passed_before output.passed_after output.failed_before output.failed_after left

-- err got a line whole; or its count rose, and it got a front of it
abbrev pub GotLine : OutputOfRun → List ℕ → Type 0
GotLine output line =
    TookLine output.taken_before output.taken_after output.failed_before output.failed_after line
    × PassedLine output.passed_before output.passed_after output.failed_before output.failed_after line

-- What the writing of an ending gives: out got the whole text, and err its line; or a call of out failed, and err got the
-- line that says so.
abbrev pub IsWritten : Ending → OutputOfRun → OutputOfRun → Status → Type 0
IsWritten ending out err status =
    ((status ≡ ending.status) × GotText out ending.out × GotLine err ending.err)
    ⊎ ((status ≡ WriteFault) × Rose out.failed_before out.failed_after × IsLeftOn out ending output_failed × GotLine err output_failed.err)

module _ (IsOutcome : FilesTold → Ending → Type 0) (ComesTo : FilesTold → List ℕ → Type 0) (files : FilesOfRun) where
  -- no count of a file rose to which the job comes
  abbrev pub NoReadFails : Type 0
  NoReadFails = (file : List ℕ) → ComesTo files.told_after file → Rose (files.failed_before file) (files.failed_after file) → ⊥

  -- the run ends in an outcome of its job, in a failed read or because memory ran out
  abbrev pub EndsIn : Ending → Type 0
  EndsIn ending = IsOutcome files.told_after ending ⊎ ((file : List ℕ) × (ending ≡ read_failed file)) ⊎ (ending ≡ no_memory)

  -- no other file is opened than those to which the job comes: of any other name the same is told as before
  abbrev pub OpensNoOther : Type 0
  OpensNoOther = (file : List ℕ) → (files.told_after file ≡ files.told_before file) ⊎ ComesTo files.told_after file

  -- a failed read is of a file to which the job comes and whose count rose
  abbrev pub FailedAt : List ℕ → Type 0
  FailedAt file = ComesTo files.told_after file × Rose (files.failed_before file) (files.failed_after file)

  -- A run up to the writing: how it ends, before anything is written.
  pub record Ends (ending : Ending) : Type 0 where
    -- where no read failed, it is an outcome of the job
    pub complete : NoReadFails → IsOutcome files.told_after ending ⊎ (ending ≡ no_memory)
    -- however it ends: as its job does, in a failed read or because memory ran out
    pub cause : EndsIn ending
    -- a failed read comes before no refusal
    pub read_fault : (file : List ℕ) → ending.status ≡ ReadFault file → FailedAt file
    -- no output has failed
    pub no_write_fault : ending.status ≢ WriteFault
    -- a status that says so comes with no text
    pub silent : IsTrue (writes_nothing ending.status) → ending.out ≡ []
    -- files that told all from the start tell the same after the run
    pub from_the_start : TellsAll files.told_before → files.told_after ≡ files.told_before
    -- so no zone file is opened of metadata that are refused
    pub opens : OpensNoOther

  -- A run as it is seen from outside: its status, and what its two outputs got.
  pub record Runs (out err : OutputOfRun) (status : Status) : Type 0 where
    -- Where nothing failed, the run is an outcome of the job, of which out got exactly the text: for every sink that knows
    -- what it passed on, exactly that was passed on.
    pub complete : NoReadFails → NoneFailed out
        → ((ending : Ending) × IsOutcome files.told_after ending × (status ≡ ending.status) × GotText out ending.out) ⊎ (status ≡ NoMemory)
    -- however it ends: as its job does, in a failed read or because memory ran out, unless out fails; and err got its line
    pub cause : (ending left : Ending) × EndsIn ending × IsLeftOn out ending left × (status ≡ left.status) × GotLine err left.err
    -- a failed read comes before no refusal
    pub read_fault : (file : List ℕ) → status ≡ ReadFault file → FailedAt file
    -- an output that couldn't be written is one of which a call failed
    pub write_fault : status ≡ WriteFault → Rose out.failed_before out.failed_after
    -- a status that says that nothing was written is so
    pub silent : IsTrue (writes_nothing status) → GotNothing out
    -- files that told all from the start tell the same after the run
    pub from_the_start : TellsAll files.told_before → files.told_after ≡ files.told_before
    -- so no zone file is opened of metadata that are refused
    pub opens : OpensNoOther
