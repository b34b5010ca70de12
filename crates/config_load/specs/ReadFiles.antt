-- What is told of zone files that were read: for the contracts of inner calls alone.
use Rattle.std.specs.Prelude.{ℕ, List, Result, Ok, Err}
use Rattle.master_read.specs.declared.fault.TextFault.{TextFault}
use Rattle.master_read.specs.declared.zone_text.ZoneText.{ZoneText}
use Rattle.config_load.specs.Faults.{of_text}
use Rattle.config_load.specs.declared.fault.LoadFault.{LoadFault}
use Rattle.config_load.specs.declared.zone_files.ZoneFiles.{ZoneFiles}

-- what files with these names gave
abbrev pub read_files : List (List ℕ) → Result ZoneText TextFault → Result ZoneFiles LoadFault
read_files names (Ok text) = Ok (record { names = names; text = text })
read_files names (Err fault) = Err (of_text names fault)
