-- Why a run that was stopped gives no list.
use Rattle.std.specs.Prelude.{ℕ}
use Rattle.pool_core.specs.declared.event.StopCause.{StopCause}
use Rattle.pool_core.specs.declared.event.StopCause.TheVariants.{Full, NoMemory as StopNoMemory}
use Rattle.verdict_book.specs.declared.walk.PoolFault.{PoolFault}
use Rattle.verdict_book.specs.declared.walk.PoolFault.TheVariants.{TooMany, NoMemory}

-- the fault of a run under a limit that was stopped for a cause
abbrev pub fault_of : StopCause → ℕ → PoolFault
fault_of Full limit = TooMany limit
fault_of StopNoMemory limit = NoMemory
