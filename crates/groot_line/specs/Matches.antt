-- What the matches of `clap` say of the words.
use Rattle.std.specs.Prelude.{ℕ, Bool, not, ◌||◌, List, [], codes, None, is_some, option_map, unwrap_or}
use Rattle.clap.specs.Lexer.{long_of}
use Rattle.clap.specs.Matches.{found_of, first_value, matched_of, raw_values}
use Rattle.clap.specs.declared.error.kind.ErrorKind.{ErrorKind}
use Rattle.clap.specs.declared.error.kind.ErrorKind.TheVariants.{OutOfMemory}
use Rattle.clap.specs.declared.parser.matches.ArgMatches.{ArgMatches}
use Rattle.groot_line.specs.Arguments.{Arguments, is_dashed}
use Rattle.groot_line.specs.declared.fault.LineFault.{LineFault}
use Rattle.groot_line.specs.declared.fault.LineFault.TheVariants.{Usage, NoMemory}

-- a word that begins with a dash begins with two, and something behind them
abbrev pub is_in_form : List ℕ → Bool
is_in_form word = not (is_dashed word) || is_some (long_of word)

-- every refusal but `NoMemory` is that of the words
abbrev pub refusal_by : ErrorKind → LineFault
refusal_by OutOfMemory = NoMemory
refusal_by kind = Usage

-- the operands in order
abbrev pub operands_in : ArgMatches → List (List ℕ)
operands_in matches = unwrap_or (option_map raw_values (matched_of (found_of matches) (codes "operands"))) []

-- the values of options, and the operands
abbrev pub arguments_in : ArgMatches → Arguments
arguments_in matches = record {
  workers = first_value (found_of matches) (codes "workers");
  classes = first_value (found_of matches) (codes "classes");
  rewrites = first_value (found_of matches) (codes "rewrites");
  operands = operands_in matches;
  awaited = None;
}
