-- The commands, which programs have them, and which options each has.
use Rattle.std.specs.Prelude.{ℕ, Bool, true, false, ◌&&◌, List, [], ◌∷◌, codes, Option}
use Rattle.std.specs.List.{find}
use Rattle.dns_data.specs.Rdata.{octets_eq}
use Rattle.groot_line.specs.declared.command.Command.{Command}
use Rattle.groot_line.specs.declared.command.Command.TheVariants.{Check, Ask, Classes, Drill, Site, Recheck, Same, Scope, Scopes}
use Rattle.groot_line.specs.declared.line_option.LineOption.{LineOption}
use Rattle.groot_line.specs.declared.line_option.LineOption.TheVariants as options
use Rattle.groot_line.specs.declared.program.Program.{Program}
use Rattle.groot_line.specs.declared.program.Program.TheVariants.{Groot}

-- the word of a command
abbrev pub command_word : Command → List ℕ
command_word Check = codes "check"
command_word Ask = codes "ask"
command_word Classes = codes "classes"
command_word Drill = codes "drill"
command_word Site = codes "site"
command_word Recheck = codes "recheck"
command_word Same = codes "same"
command_word Scope = codes "scope"
command_word Scopes = codes "scopes"

-- all commands
abbrev pub commands : List Command
commands = Check ∷ Ask ∷ Classes ∷ Drill ∷ Site ∷ Recheck ∷ Same ∷ Scope ∷ Scopes ∷ []

-- the program has the command
abbrev pub has_command : Program → Command → Bool
has_command Groot Scopes = false
has_command program command = true

-- the command of the program with this word, which is compared as written
abbrev pub command_of : Program → List ℕ → Option Command
command_of program word = find (λ command. has_command program command && octets_eq word (command_word command)) commands

-- the command has the option
abbrev pub has_option : Command → LineOption → Bool
has_option Check option = true
has_option Ask option = false
has_option Classes options.Classes = true
has_option Classes option = false
has_option Drill options.Workers = true
has_option Drill option = false
has_option Site option = false
has_option Recheck option = false
has_option Same option = false
has_option Scope option = false
has_option Scopes option = false
