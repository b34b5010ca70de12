-- Faults that say something of the text: `NoMemory` stands in none of them.
use Rattle.std.specs.Prelude.{◌≡◌, Bool, true, false}
use Rattle.dns_data.specs.declared.fault.NameFault.{NameFault}
use Rattle.dns_data.specs.declared.fault.NameFault.TheVariants as name_faults
use Rattle.rdata_forms.specs.declared.fault.RdataFault.{RdataFault}
use Rattle.rdata_forms.specs.declared.fault.RdataFault.TheVariants as rdata_faults
use Rattle.master_read.specs.declared.fault.TextCause.{TextCause}
use Rattle.master_read.specs.declared.fault.TextCause.TheVariants.{BadOwner, Rdata}
use Rattle.master_read.specs.declared.fault.TextFault.{TextFault}
use Rattle.master_read.specs.declared.fault.TextFault.TheVariants as text_faults

-- whether the fault of a name says something of the name, and not that memory ran out
abbrev pub tells_of_name : NameFault → Bool
tells_of_name name_faults.NoMemory = false
tells_of_name name_faults.EmptyLabel = true
tells_of_name name_faults.LabelTooLong = true
tells_of_name name_faults.NameTooLong = true
tells_of_name name_faults.BadEscape = true

-- whether the fault of data says something of the data
abbrev pub tells_of_data : RdataFault → Bool
tells_of_data rdata_faults.NoMemory = false
tells_of_data (rdata_faults.BadName fault) = tells_of_name fault
tells_of_data _ = true

-- whether a cause says something of the text: `NoMemory` is no cause
abbrev pub tells_of_text : TextCause → Bool
tells_of_text (BadOwner fault) = tells_of_name fault
tells_of_text (Rdata fault) = tells_of_data fault
tells_of_text _ = true

-- `NoMemory` never stands inside a fault of the text
abbrev pub TellsOfText : TextFault → Type 0
TellsOfText (text_faults.At file line cause) = tells_of_text cause ≡ true
TellsOfText text_faults.NoMemory = Unit {0}
