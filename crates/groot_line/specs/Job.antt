-- What the words of the command line ask for.
use Rattle.std.specs.Prelude.{ℕ, ◌<◌, ◌≤◌, List, [], ◌∷◌, ok_or, Result, Ok, Err}
use Rattle.dns_data.specs.Answers.{◌>>=◌}
use Rattle.groot_line.specs.Arguments.{Arguments, arguments_of}
use Rattle.groot_line.specs.Command.{command_of}
use Rattle.groot_line.specs.LineOption.{most_of}
use Rattle.groot_line.specs.Number.{number_by}
use Rattle.groot_line.specs.Operands.{asked_file, only_meta, two_files, asked_name, asked_type, most_zones, drill_number}
use Rattle.groot_line.specs.declared.command.Command.{Command}
use Rattle.groot_line.specs.declared.command.Command.TheVariants as commands
use Rattle.groot_line.specs.declared.fault.LineFault.{LineFault}
use Rattle.groot_line.specs.declared.fault.LineFault.TheVariants.{Usage}
use Rattle.groot_line.specs.declared.job.Job.{Job}
use Rattle.groot_line.specs.declared.job.Job.TheVariants.{OfConfig, Drill, Recheck, Same, Scopes}
use Rattle.groot_line.specs.declared.job.Task.{Task}
use Rattle.groot_line.specs.declared.job.Task.TheVariants.{Check, Ask, Classes, Site, Scope}
use Rattle.groot_line.specs.declared.line_option.LineOption.TheVariants as options
use Rattle.groot_line.specs.declared.program.Program.{Program}
use Rattle.groot_line.specs.declared.program.Program.TheVariants.{Groot}

-- the query that operands ask
abbrev pub asked : List (List ℕ) → Result Job LineFault
asked (meta_word ∷ name_word ∷ type_word ∷ []) = do
  meta ← asked_file meta_word
  name ← asked_name name_word
  rtype ← asked_type type_word
  Ok (OfConfig meta (Ask name rtype))
asked operands = Err Usage

-- the scope that operands name
abbrev pub asked_scope : List (List ℕ) → Result Job LineFault
asked_scope (meta_word ∷ name_word ∷ []) = do
  meta ← asked_file meta_word
  name ← asked_name name_word
  Ok (OfConfig meta (Scope name))
asked_scope operands = Err Usage

-- the job of a command and the words behind it
abbrev pub job_by : Program → Command → Arguments → Result Job LineFault
job_by program commands.Check arguments = do
  meta ← only_meta arguments.operands
  workers ← number_by program options.Workers arguments.workers
  classes ← number_by program options.Classes arguments.classes
  rewrites ← number_by program options.Rewrites arguments.rewrites
  Ok (OfConfig meta (Check workers classes rewrites))
job_by program commands.Ask arguments = asked arguments.operands
job_by program commands.Classes arguments = do
  meta ← only_meta arguments.operands
  classes ← number_by program options.Classes arguments.classes
  Ok (OfConfig meta (Classes classes))
job_by program commands.Drill arguments = do
  n ← drill_number program arguments.operands
  workers ← number_by program options.Workers arguments.workers
  Ok (Drill n workers)
job_by program commands.Site arguments = do
  meta ← only_meta arguments.operands
  Ok (OfConfig meta Site)
job_by program commands.Recheck arguments = do
  files ← two_files arguments.operands
  Ok (Recheck files.0 files.1)
job_by program commands.Same arguments = do
  files ← two_files arguments.operands
  Ok (Same files.0 files.1)
job_by program commands.Scope arguments = asked_scope arguments.operands
job_by program commands.Scopes arguments = do
  files ← two_files arguments.operands
  Ok (Scopes files.0 files.1)

-- the job that the words ask of the program
abbrev pub job_asked : Program → List (List ℕ) → Result Job LineFault
job_asked program [] = Err Usage
job_asked program (word ∷ words) = do
  command ← ok_or (command_of program word) Usage
  arguments ← arguments_of command words
  job_by program command arguments

-- the job that the words ask of `groot`
abbrev pub job_of : List (List ℕ) → Result Job LineFault
job_of = job_asked Groot

-- a number from 1 up to the most
abbrev pub InRange : ℕ → ℕ → Type 0
InRange most n = (0 < n) × (n ≤ most)

-- the numbers of a task are such as words may say to the program
abbrev pub IsTaskInRange : Program → Task → Type 0
IsTaskInRange program (Check workers classes rewrites) =
    InRange (most_of program options.Workers) workers × InRange (most_of program options.Classes) classes × InRange (most_of program options.Rewrites) rewrites
IsTaskInRange program (Ask name rtype) = Unit {0}
IsTaskInRange program (Classes classes) = InRange (most_of program options.Classes) classes
IsTaskInRange program Site = Unit {0}
IsTaskInRange program (Scope name) = Unit {0}

-- the numbers of a job are such as words may say to the program
abbrev pub AreInRange : Program → Job → Type 0
AreInRange program (OfConfig meta task) = IsTaskInRange program task
AreInRange program (Drill n workers) = InRange most_zones n × InRange (most_of program options.Workers) workers
AreInRange program (Recheck meta report) = Unit {0}
AreInRange program (Same first second) = Unit {0}
AreInRange program (Scopes meta names) = Unit {0}
