-- Strings one after another.
use Rattle.std.proofs.Common.{ℕ, List, ◌++◌, Result, Ok}
use Rattle.dns_data.specs.Answers.{◌>>=◌}
use Rattle.rdata_forms.specs.declared.fault.RdataFault.{RdataFault}

-- what is read of strings, with these strings before it
abbrev pub behind : List (List ℕ) → Result (List (List ℕ)) RdataFault → Result (List (List ℕ)) RdataFault
behind strings others = others >>= λ more. Ok (strings ++ more)
