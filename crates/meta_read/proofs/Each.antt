-- What a step gives of each item, as far as a loop has come.
use Rattle.std.proofs.Common.{List, ◌++◌, Result, Ok}
use Rattle.dns_data.specs.Answers.{◌>>=◌}
use Rattle.meta_read.specs.declared.fault.MetaFault.{MetaFault}

-- the values so far, and then those of the rest, or the rest's fault
abbrev pub continued : {B : Type 0} → List B → Result (List B) MetaFault → Result (List B) MetaFault
continued done rest = rest >>= (λ more. Ok (done ++ more))
