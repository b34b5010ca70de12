-- Numbers in fields of data (RFC 1035 section 5.1).
use Rattle.std.specs.Prelude.{ℕ, List, Result}
use Rattle.std.specs.Option.{ok_or}
use Rattle.dns_data.specs.Number.{number_up_to}
use Rattle.rdata_forms.specs.declared.fault.RdataFault.{RdataFault}
use Rattle.rdata_forms.specs.declared.fault.RdataFault.TheVariants.{BadNumber}

-- the number of one to ten digits, if it is at most this
abbrev pub number_in : ℕ → List ℕ → Result ℕ RdataFault
number_in most text = ok_or (number_up_to 10 most text) BadNumber
