-- For the code alone, no public clause cites it: the octets of a text for out.
use Rattle.std.specs.Prelude.{ℕ, List}
use Rattle.std.specs.List.{flat_map}
use Rattle.run_endings.specs.declared.text.TextForm.{TextForm}
use Rattle.run_endings.specs.declared.text.TextForm.TheVariants.{Whole, Pieces}

-- the octets of a text, be they one after the other or in pieces
abbrev pub text_octets : TextForm → List ℕ
text_octets (Whole octets) = octets
text_octets (Pieces pieces) = flat_map (λ piece. piece) pieces
