-- The words behind a command: options with their values, and operands, in any order.
use Rattle.std.specs.Prelude.{ℕ, Bool, true, false, ◌==◌, ◌&&◌, List, [], ◌∷◌, ◌++◌, Option, Some, None, is_some, if◌then◌else◌, Result, Ok, Err}
use Rattle.std.specs.List.{find}
use Rattle.std.specs.Str.{bytes_eq}
use Rattle.clap.specs.Lexer.{long_of}
use Rattle.dns_data.specs.Answers.{◌>>=◌}
use Rattle.groot_line.specs.Command.{has_option}
use Rattle.groot_line.specs.LineOption.{option_name, line_options}
use Rattle.groot_line.specs.declared.command.Command.{Command}
use Rattle.groot_line.specs.declared.fault.LineFault.{LineFault}
use Rattle.groot_line.specs.declared.fault.LineFault.TheVariants.{Usage}
use Rattle.groot_line.specs.declared.line_option.LineOption.{LineOption}
use Rattle.groot_line.specs.declared.line_option.LineOption.TheVariants.{Workers, Classes, Rewrites}

-- what the words so far say: the values of options, the operands in order, and the option whose value the next word is
pub record Arguments : Type 0 where
  pub workers : Option (List ℕ)
  pub classes : Option (List ℕ)
  pub rewrites : Option (List ℕ)
  pub operands : List (List ℕ)
  pub awaited : Option LineOption

-- no word says anything
abbrev pub no_arguments : Arguments
no_arguments = record { workers = None; classes = None; rewrites = None; operands = []; awaited = None }

-- the value that an option was given
abbrev pub value_given : LineOption → Arguments → Option (List ℕ)
value_given Workers arguments = arguments.workers
value_given Classes arguments = arguments.classes
value_given Rewrites arguments = arguments.rewrites

-- the arguments with a value for an option, which is no longer awaited
abbrev pub with_option_value : LineOption → List ℕ → Arguments → Arguments
with_option_value Workers value arguments = record arguments { workers = Some value; awaited = None }
with_option_value Classes value arguments = record arguments { classes = Some value; awaited = None }
with_option_value Rewrites value arguments = record arguments { rewrites = Some value; awaited = None }

-- the arguments with a value for an option, unless it has one already
abbrev pub with_value : LineOption → List ℕ → Arguments → Result Arguments LineFault
with_value option value arguments =
    if is_some (value_given option arguments) then Err Usage else Ok (with_option_value option value arguments)

-- the arguments with an option whose value the next word is
abbrev pub awaiting : LineOption → Arguments → Arguments
awaiting option arguments = record arguments { awaited = Some option }

-- the arguments with an operand more
abbrev pub with_operand : List ℕ → Arguments → Arguments
with_operand word arguments = record arguments { operands = arguments.operands ++ word ∷ [] }

-- the option of the command with this name
abbrev pub option_named : Command → List ℕ → Option LineOption
option_named command name = find (λ option. has_option command option && bytes_eq (option_name option) name) line_options

-- the word begins with a dash
abbrev pub is_dashed : List ℕ → Bool
is_dashed [] = false
is_dashed (octet ∷ rest) = octet == 45

-- an option, alone or with the value that stands behind an equals sign in its word
abbrev pub after_option : Option LineOption → Option (List ℕ) → Arguments → Result Arguments LineFault
after_option None value arguments = Err Usage
after_option (Some option) None arguments = Ok (awaiting option arguments)
after_option (Some option) (Some value) arguments = with_value option value arguments

-- a word that begins with a dash: the name of an option, and its value if it has one
abbrev pub after_dash : Command → Option (List ℕ × Option (List ℕ)) → Arguments → Result Arguments LineFault
after_dash command None arguments = Err Usage
after_dash command (Some said) arguments = after_option (option_named command said.0) said.1 arguments

-- a word more: it is awaited as a value, or begins with a dash, or is an operand; a value that is awaited doesn't begin
-- with a dash
abbrev pub after_word : Command → List ℕ → Arguments → Result Arguments LineFault
after_word command word arguments = by (is_dashed word) arguments.awaited where
  by : Bool → Option LineOption → Result Arguments LineFault
  by true (Some option) = Err Usage
  by false (Some option) = with_value option word arguments
  by true None = after_dash command (long_of word) arguments
  by false None = Ok (with_operand word arguments)

-- words more, after which no value is awaited
abbrev pub after_words : Command → List (List ℕ) → Arguments → Result Arguments LineFault
after_words command [] arguments = if is_some arguments.awaited then Err Usage else Ok arguments
after_words command (word ∷ words) arguments = do
  next ← after_word command word arguments
  after_words command words next

-- what the words behind a command say
abbrev pub arguments_of : Command → List (List ℕ) → Result Arguments LineFault
arguments_of command words = after_words command words no_arguments
