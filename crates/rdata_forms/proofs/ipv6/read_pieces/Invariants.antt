use Rattle.std.proofs.Common.{◌≡◌, ◌++◌, length, option_map}
use Rattle.rdata_forms.specs.Addresses.{octets_of}
use Rattle.rdata_forms.proofs.ipv6.read_pieces.Given as goal

-- the octets so far and those of what is left make the whole
abbrev pub invariant-loop-after : goal.invariant-loop-after
invariant-loop-after l = option_map (λ more. l.octets.items ++ more) (octets_of l.ends l.rest) ≡ octets_of l.ends l.text

abbrev pub decreases-loop-after : goal.decreases-loop-after
decreases-loop-after l = length l.rest
