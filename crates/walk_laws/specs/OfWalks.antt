-- The faults that are told of walks alone.
use Rattle.std.specs.Prelude.{Bool, true, false}
use Rattle.net_model.specs.declared.fault.Fault.{Fault}
use Rattle.net_model.specs.declared.fault.Fault.TheVariants as faults

-- a fault that isn't told of a class or of its representative alone
abbrev pub is_of_walks : Fault → Bool
is_of_walks (faults.Answers class shown_with) = false
is_of_walks (faults.Overlong place) = false
is_of_walks fault = true
