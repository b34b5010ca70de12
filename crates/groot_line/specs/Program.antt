-- The programs that read words, and the numbers in which they differ.
use Rattle.std.specs.Prelude.{ℕ}
use Rattle.groot_line.specs.declared.program.Program.{Program}
use Rattle.groot_line.specs.declared.program.Program.TheVariants.{Groot, GrootLarge}

-- the most names that a class tree may be allowed to have, whatever the program
abbrev pub largest_names : ℕ
largest_names = 2147483647

-- the most names that the words may allow the class tree to have
abbrev pub most_names : Program → ℕ
most_names Groot = 1000000
most_names GrootLarge = largest_names

-- how many names the class tree may have, where nothing else is said
abbrev pub usual_names : Program → ℕ
usual_names Groot = 100000
usual_names GrootLarge = largest_names

-- how many digits a number has at most
abbrev pub most_digits : Program → ℕ
most_digits Groot = 7
most_digits GrootLarge = 10
