-- What calls do to the source of files that they read: for the contracts of inner calls alone.
use Rattle.std.specs.Prelude.{ℕ, List, Result}
use Rattle.io_edges.specs.Counts.{NoneFell}
use Rattle.io_edges.specs.Files.{FilesTold, StaysTold, SameElsewhere}
use Rattle.config_load.specs.Faults.{FailedAt}
use Rattle.config_load.specs.Follows.{ByTold, OpensWhereItComes, Answers}
use Rattle.config_load.specs.declared.fault.LoadFault.{LoadFault}

-- only the file of this name was read: what was told stays told, what is told of every other name is the same, and no
-- count fell
pub record ReadsOnly (name : List ℕ) (told told' : FilesTold) (counts counts' : List ℕ → ℕ) : Type 0 where
  pub stays : StaysTold told told'
  pub others : SameElsewhere name told told'
  pub never_fall : NoneFell counts counts'

-- no file was read but those to which the reading comes: what was told stays told, and no count fell
pub record ReadsFor {A : Type 0} (told told' : FilesTold) (counts counts' : List ℕ → ℕ) (reading : ByTold A) : Type 0 where
  pub stays : StaysTold told told'
  pub opens : OpensWhereItComes told told' reading
  pub never_fall : NoneFell counts counts'

-- the reading was done: the result answers it, by what is told now, a failed read has its cause in a count, and no file
-- was read but those to which the reading comes
pub record HasAnswered {A : Type 0} (told told' : FilesTold) (counts counts' : List ℕ → ℕ) (reading : ByTold A) (result : Result A LoadFault) : Type 0 where
  pub answers : Answers told' reading result
  pub cause : FailedAt counts counts' result
  pub source : ReadsFor told told' counts counts' reading
