-- For the code alone, no public clause cites it: what a value of octets keeps.
use Rattle.std.specs.Prelude.{ℕ, List}
use Rattle.dns_data.specs.declared.octets.Storage.{Storage}
use Rattle.dns_data.specs.declared.octets.Storage.TheVariants.{Inline, Heap}

-- the octets that are kept
abbrev pub octets_in : Storage → List ℕ
octets_in (Inline short) = short
octets_in (Heap octets) = octets.items
