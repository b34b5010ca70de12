-- Faults of loading, by the faults that they are told of.
use Rattle.std.specs.Prelude.{◌≡◌, ℕ, List, [], slice_get, unwrap_or, Result, Err}
use Rattle.io_edges.specs.Counts.{Rose}
use Rattle.master_read.specs.declared.fault.TextFault.{TextFault}
use Rattle.master_read.specs.declared.fault.TextFault.TheVariants as text_faults
use Rattle.meta_read.specs.declared.fault.MetaFault.{MetaFault}
use Rattle.meta_read.specs.declared.fault.MetaFault.TheVariants as meta_faults
use Rattle.zone_rules.specs.declared.fault.RuleFault.{RuleFault}
use Rattle.zone_rules.specs.declared.fault.RuleFault.TheVariants as rule_faults
use Rattle.config_load.specs.declared.fault.LoadFault.{LoadFault}
use Rattle.config_load.specs.declared.fault.LoadFault.TheVariants.{Read, TooLong, Meta, Text, Rule, NoMemory}

-- A fault of the metadata. No metadata are refused because memory ran out: that answer is a call's alone, here and below.
abbrev pub of_metadata : MetaFault → LoadFault
of_metadata meta_faults.NoMemory = NoMemory
of_metadata fault = Meta fault

-- the name of the file of this number; each number in a fault is that of an opened file
abbrev pub name_numbered : List (List ℕ) → ℕ → List ℕ
name_numbered names number = unwrap_or (slice_get names number) []

-- a fault in the text of one of the files with these names
abbrev pub of_text : List (List ℕ) → TextFault → LoadFault
of_text names (text_faults.At number line cause) = Text (name_numbered names number) line cause
of_text names text_faults.NoMemory = NoMemory

-- a rule that a record in one of the files with these names breaks
abbrev pub of_rule : List (List ℕ) → RuleFault → LoadFault
of_rule names (rule_faults.At number line cause) = Rule (name_numbered names number) line cause
of_rule names rule_faults.NoMemory = NoMemory

-- a failed read of the file, or `NoMemory`
abbrev pub IsReadOf : List ℕ → LoadFault → Type 0
IsReadOf name (Read file) = file ≡ name
IsReadOf name NoMemory = Unit {0}
IsReadOf name fault = ⊥

-- the file is too long, or `NoMemory`
abbrev pub IsTooLongOf : List ℕ → LoadFault → Type 0
IsTooLongOf name (TooLong file) = file ≡ name
IsTooLongOf name NoMemory = Unit {0}
IsTooLongOf name fault = ⊥

-- a failed read is of a file whose count of failures rose
abbrev pub FailedAt : {T : Type 0} → (List ℕ → ℕ) → (List ℕ → ℕ) → Result T LoadFault → Type 0
FailedAt before after (Err (Read file)) = Rose (before file) (after file)
FailedAt before after result = Unit {0}
