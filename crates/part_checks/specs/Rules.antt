-- The conditions of a part, by the rules that are told where one doesn't hold.
use Rattle.std.specs.Prelude.{◌≡◌, ◌≢◌, ◌⊎◌, ℕ, true, false, List, [], ◌∷◌, ◌++◌, length, Contains}
use Rattle.dns_data.specs.Name.{Labels, is_prefix}
use Rattle.dns_data.specs.declared.rdata.Rdata.TheVariants as data_of
use Rattle.dns_data.specs.declared.rdata.Rr.{Rr}
use Rattle.net_model.specs.Nearest.{is_configured, is_top}
use Rattle.net_model.specs.Reading.{Redirection, redirections_of, origins_and_owners, ground_of}
use Rattle.net_model.specs.Zone.{exists_in}
use Rattle.net_model.specs.declared.config.Config.{Config}
use Rattle.net_model.specs.declared.config.Zone.{Zone}
use Rattle.part_laws.specs.Part.{restricted_zone, restricted, HasRecord, HasShorterUnnamed}
use Rattle.part_laws.specs.RecordByRecord.{LeavesAt}
use Rattle.part_names.specs.PartNames.{is_own}
use Rattle.part_names.specs.declared.names.PartNames.{PartNames}
use Rattle.part_checks.specs.Parts.{held_by}
use Rattle.part_checks.specs.declared.fault.PartFault.{PartFault}
use Rattle.part_checks.specs.declared.fault.PartFault.TheVariants.{Breaks, NoMemory}
use Rattle.part_checks.specs.declared.fault.PartRule.{PartRule}
use Rattle.part_checks.specs.declared.fault.PartRule.TheVariants.{Met, Exists, Short, Apart, Alias, Redirects, Referral, Own, Away}

-- an origin or owner of the whole leaves the held names at the name with this label below
pub record StartLeaves (whole : Config) (names : PartNames) (above : Labels) (label : List ℕ) : Type 0 where
  pub start : Labels
  pub among : Contains (origins_and_owners whole) start
  pub leaves : LeavesAt (held_by names) start above label

-- the name leaves the held names at one that is told as away
pub record LeavesAtAway (names : PartNames) (name : Labels) : Type 0 where
  pub above : Labels
  pub label : List ℕ
  pub leaves : LeavesAt (held_by names) name above label
  pub told : Contains names.away (above ++ label ∷ [])

-- the name is held, or leaves the held names at one that is told as away
abbrev pub IsHeldOrLeavesAtAway : PartNames → Labels → Type 0
IsHeldOrLeavesAtAway names name = Contains (held_by names) name ⊎ LeavesAtAway names name

-- an NS record of a delegation that is left has a name server that may have glue at or below the zone cut, or whose address
-- may have to be learnt
pub record IsReferral (whole : Config) (names : PartNames) (ns : Labels) : Type 0 where
  pub zone : Zone
  pub rr : Rr
  pub left : HasRecord (restricted (held_by names) whole) zone rr
  pub below : rr.owner ≢ zone.origin
  pub is : rr.rdata ≡ data_of.Ns ns
  pub matters : (is_prefix rr.owner ns ≡ true) ⊎ ((is_configured whole ns ≡ true) × (is_top whole ns ≡ false))

-- the rule holds of the names of a part of the whole
abbrev pub Keeps : Config → PartNames → PartRule → Type 0
Keeps whole names Met =
    (name : Labels) → Contains names.held name → Contains (origins_and_owners (restricted (held_by names) whole)) name
Keeps whole names Exists =
    (zone : Zone) (rr : Rr) → HasRecord whole zone rr → Contains (held_by names) zone.origin
    → (above : Labels) (label : List ℕ) → LeavesAt (held_by names) rr.owner above label → exists_in (restricted_zone (held_by names) zone) above ≡ true
Keeps whole names Short =
    (above : Labels) (label : List ℕ) → StartLeaves whole names above label
    → HasShorterUnnamed (ground_of (restricted (held_by names) whole)) above (length label)
Keeps whole names Apart =
    (above : Labels) (label : List ℕ) → StartLeaves whole names above label
    → (redirection : Redirection) → Contains (redirections_of (restricted (held_by names) whole)) redirection
    → (is_prefix redirection.owner above ≡ false) × (is_prefix redirection.target above ≡ false)
Keeps whole names Alias =
    (zone : Zone) (rr : Rr) (target : Labels) → HasRecord (restricted (held_by names) whole) zone rr → rr.rdata ≡ data_of.Cname target
    → IsHeldOrLeavesAtAway names target
Keeps whole names Redirects =
    (redirection : Redirection) → Contains (redirections_of (restricted (held_by names) whole)) redirection → IsHeldOrLeavesAtAway names redirection.target
Keeps whole names Referral = (ns : Labels) → IsReferral whole names ns → IsHeldOrLeavesAtAway names ns
Keeps whole names Own =
    (start : Labels) → Contains (origins_and_owners whole) start
    → (above below : Labels) → start ≡ above ++ below → is_own names above ≡ true → Contains (held_by names) above
Keeps whole names Away =
    (above : Labels) (label : List ℕ) → StartLeaves whole names above label → Contains names.away (above ++ label ∷ []) → ⊥

-- what a refusal says of a claim for each rule: that of its own rule doesn't hold
abbrev pub Refutes : (PartRule → Type 0) → PartFault → Type 0
Refutes claim (Breaks rule name) = claim rule → ⊥
Refutes claim NoMemory = Unit {0}

-- why names are refused: a rule of parts doesn't hold of them, or memory ran out
abbrev pub IsRefused : Config → PartNames → PartFault → Type 0
IsRefused whole names fault = Refutes (Keeps whole names) fault
