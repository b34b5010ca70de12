-- What the checks claim, rule by rule. The contracts of inner calls alone cite it.
use Rattle.std.specs.Prelude.{◌≡◌, ◌-◌, ℕ, false, Some}
use Rattle.dns_data.specs.Name.{Labels, is_among, wire_octets}
use Rattle.dns_data.specs.declared.rdata.Rdata.{Rdata}
use Rattle.dns_data.specs.declared.rdata.Rdata.TheVariants as data_of
use Rattle.part_names.specs.declared.names.PartNames.{PartNames}
use Rattle.part_checks.specs.Outside.{first_outside, own_outside, parent}
use Rattle.part_checks.specs.declared.fault.PartRule.{PartRule}
use Rattle.part_checks.specs.declared.fault.PartRule.TheVariants.{Alias, Redirects, Referral, Own, Away}

-- no prefix of the name that isn't held is own, and it doesn't leave the held names at one that is told as away
pub record IsFitName (rule : PartRule) (names : PartNames) (name : Labels) : Type 0 where
  pub own : Own ≡ rule → (front : Labels) → own_outside names name ≡ Some front → ⊥
  pub away : Away ≡ rule → (front : Labels) → first_outside names name ≡ Some front → is_among names.away front ≡ false

-- the rule by which data lead somewhere
abbrev pub rule_of : Rdata → PartRule
rule_of (data_of.Dname target) = Redirects
rule_of (data_of.Ns target) = Referral
rule_of rdata = Alias

-- how many octets the last label of a name has
abbrev pub last_octets : Labels → ℕ
last_octets name = wire_octets name - wire_octets (parent name) - 1
