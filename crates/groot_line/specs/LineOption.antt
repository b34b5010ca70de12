-- The options. The value of each is a number from 1 on.
use Rattle.std.specs.Prelude.{ℕ, List, [], ◌∷◌, codes}
use Rattle.groot_line.specs.Program.{most_names, usual_names}
use Rattle.groot_line.specs.declared.line_option.LineOption.{LineOption}
use Rattle.groot_line.specs.declared.line_option.LineOption.TheVariants.{Workers, Classes, Rewrites}
use Rattle.groot_line.specs.declared.program.Program.{Program}

-- the name of an option, which stands behind two dashes
abbrev pub option_name : LineOption → List ℕ
option_name Workers = codes "workers"
option_name Classes = codes "classes"
option_name Rewrites = codes "rewrites"

-- the most that the number of an option may be
abbrev pub most_of : Program → LineOption → ℕ
most_of program Workers = 64
most_of program Classes = most_names program
most_of program Rewrites = 64

-- how many rewrites a query may use, where nothing else is said
abbrev pub usual_rewrites : ℕ
usual_rewrites = 12

-- the number where the words don't say it
abbrev pub default_of : Program → LineOption → ℕ
default_of program Workers = 4
default_of program Classes = usual_names program
default_of program Rewrites = usual_rewrites

-- the options of the command line
abbrev pub line_options : List LineOption
line_options = Workers ∷ Classes ∷ Rewrites ∷ []
