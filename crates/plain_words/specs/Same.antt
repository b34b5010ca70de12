-- Lists with the same items, and answers that are compared as sets of data.
use Rattle.std.specs.Prelude.{◌↔◌, List, Contains}
use Rattle.dns_data.specs.Rdata.{IsData}
use Rattle.dns_data.specs.declared.rdata.Rr.{Rr}
use Rattle.net_model.specs.declared.config.Zone.{Zone}
use Rattle.net_model.specs.declared.walk.Leaf.{Leaf}
use Rattle.net_model.specs.declared.walk.Leaf.TheVariants as leaves

-- each item of the one list is in the other
abbrev pub HaveSame : {X : Type 0} → List X → List X → Type 0
HaveSame {X = X} one other = (item : X) → Contains one item ↔ Contains other item

-- the records of the zone hold data of their types
abbrev pub HoldsData : Zone → Type 0
HoldsData zone = (rr : Rr) → Contains zone.rrs rr → IsData rr.rdata

-- Two ends of walks tell apart what zones have for the name: one has data that the other hasn't, or data where the other
-- has none, or a name that doesn't exist where it does for the other.
abbrev pub TellApart : Leaf → Leaf → Type 0
TellApart (leaves.Answer one) (leaves.Answer other) = HaveSame one other → ⊥
TellApart leaves.NoData leaves.NoData = ⊥
TellApart leaves.NxDomain leaves.NxDomain = ⊥
TellApart one other = Unit {0}
