-- What a reader of zone files was fed: for the contracts of inner calls alone.
use Rattle.std.specs.Prelude.{◌≡◌, ℕ, List, [], ◌∷◌, ◌++◌, Result, Err}
use Rattle.dns_data.specs.Name.{Labels}
use Rattle.io_edges.specs.Files.{FilesTold}
use Rattle.master_read.specs.Reader.{Held, IsReaderOf, GoesOn, asked_by}
use Rattle.master_read.specs.ZoneText.{zone_text}
use Rattle.master_read.specs.declared.asked.AfterFile.{AfterFile}
use Rattle.config_load.specs.Follows.{Follows, Answers}
use Rattle.config_load.specs.Reading.{Reads, file_octets}
use Rattle.config_load.specs.declared.fault.LoadFault.{LoadFault}
use Rattle.config_load.specs.declared.limits.Limits.{Limits}

-- a reader that was fed the first text of its open file is, as it is now, one that was fed the second
abbrev pub IsFed : Held → List ℕ → Held → List ℕ → Type 0
IsFed old first new second =
    (origin : Labels) (room includes : ℕ) (ended : List (List ℕ)) → IsReaderOf old origin room includes ended first
    → IsReaderOf new origin room includes ended second

-- a reader whose open file ended with these octets answered what comes behind them
abbrev pub HasEndedFile : Held → List ℕ → AfterFile → Held → Type 0
HasEndedFile old octets asked new =
    (origin : Labels) (room includes : ℕ) (ended : List (List ℕ)) → IsReaderOf old origin room includes ended []
    → (asked ≡ asked_by (zone_text origin room includes (ended ++ octets ∷ []))) × GoesOn asked new origin room includes (ended ++ octets ∷ [])

-- the octets of this file were fed to a reader, as those of its open file, which ended with them
pub record HasFed (limits : Limits) (told : FilesTold) (name : List ℕ) (old : Held) (asked : AfterFile) (new : Held) : Type 0 where
  pub octets : List ℕ
  pub whole : Follows told (file_octets limits name) (λ _. Reads octets)
  pub ended : HasEndedFile old octets asked new

-- the file isn't read, with this fault
abbrev pub FailsToRead : Limits → FilesTold → List ℕ → LoadFault → Type 0
FailsToRead limits told name fault = let answer : Result (List ℕ) LoadFault = Err fault in Answers told (file_octets limits name) answer
