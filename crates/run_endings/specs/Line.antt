-- For the code alone, no public clause cites it: the octets of a line for err.
use Rattle.std.specs.Prelude.{ℕ, List}
use Rattle.run_endings.specs.declared.line.LineOctets.{LineOctets}
use Rattle.run_endings.specs.declared.line.LineOctets.TheVariants.{Fixed, Made}

-- the octets of a line, be they the program's own or made
abbrev pub line_octets : LineOctets → List ℕ
line_octets (Fixed text) = text.now
line_octets (Made octets) = octets
