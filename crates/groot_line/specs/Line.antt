-- The command as `clap` is told it.
use Rattle.std.specs.Prelude.{true, codes, Some, if◌then◌else◌}
use Rattle.clap.specs.Simple.{App, new_app, new_rule, on_top, with_rule}
use Rattle.clap.specs.Walk.{Rule}
use Rattle.clap.specs.declared.builder.action.ArgAction.TheVariants.{Append}
use Rattle.groot_line.specs.Command.{has_option}
use Rattle.groot_line.specs.LineOption.{option_name}
use Rattle.groot_line.specs.declared.command.Command.{Command}
use Rattle.groot_line.specs.declared.line_option.LineOption.{LineOption}
use Rattle.groot_line.specs.declared.line_option.LineOption.TheVariants.{Workers, Classes, Rewrites}

-- an option with a value
abbrev pub option_rule : LineOption → Rule
option_rule option = record (new_rule (option_name option)) { long = Some (option_name option) }

-- the operands, however many
abbrev pub operands_rule : Rule
operands_rule = record (new_rule (codes "operands")) { action = Some Append }

-- the words begin behind the command, and no option asks for help
abbrev pub bare_line : App
bare_line = on_top (λ shape. record shape { no_binary_name = true; disable_help_flag = true }) (new_app (codes "groot"))

-- with an option, if the command has it
abbrev pub with_option : Command → LineOption → App → App
with_option command option line = if has_option command option then with_rule line (option_rule option) else line

-- the options of the command, and operands
abbrev pub command_line : Command → App
command_line command = with_rule (with_option command Rewrites (with_option command Classes (with_option command Workers bare_line))) operands_rule
