-- The codes of faults in data. `NoMemory` is no fault of data, and its word is never printed.
use Rattle.std.specs.Prelude.{ℕ, List, codes}
use Rattle.rdata_forms.specs.declared.fault.RdataFault.{RdataFault}
use Rattle.rdata_forms.specs.declared.fault.RdataFault.TheVariants.{FieldCount, BadNumber, BadAddress, BadName, TextTooLong, BadHex, GenericKnown, NoMemory}

-- the code of a fault in a record's data, the word that is printed for it
abbrev pub data_code : RdataFault → List ℕ
data_code FieldCount = codes "field-count"
data_code BadNumber = codes "bad-number"
data_code BadAddress = codes "bad-address"
data_code (BadName fault) = codes "bad-name"
data_code TextTooLong = codes "text-too-long"
data_code BadHex = codes "bad-hex"
data_code GenericKnown = codes "generic-known"
data_code NoMemory = codes "no-memory"
