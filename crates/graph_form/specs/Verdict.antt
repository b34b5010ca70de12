-- What is shown of faults, each with its first type.
use Rattle.std.specs.Prelude.{◌≡◌, ◌≤◌, Bool, true, List, map, Contains, AllPairs}
use Rattle.std.specs.List.{AllByRecursion}
use Rattle.std.specs.declared.cmp.Ordering.TheVariants.{Less}
use Rattle.dns_data.specs.Name.{Labels}
use Rattle.dns_data.specs.RrType.{number_of}
use Rattle.dns_data.specs.declared.rr_type.RrType.{RrType}
use Rattle.net_model.specs.FaultOrder.{fault_cmp}
use Rattle.net_model.specs.Shown.{FaultSetting, Shows}
use Rattle.net_model.specs.declared.fault.Fault.{Fault}
use Rattle.graph_form.specs.declared.report.Seen.{Seen}

-- these are the faults of some kinds that the query shows, in fault order, each once and with its first type
pub record AreShownOf (setting : FaultSetting) (query : Labels) (of_kind : Fault → Bool) (shown : List Seen) : Type 0 where
  pub ordered : AllPairs (λ a b. fault_cmp a.fault b.fault ≡ Less) shown
  pub kinds : AllByRecursion (λ seen. of_kind seen.fault ≡ true) shown
  pub each_shown : AllByRecursion (λ seen. Shows setting query seen.rtype seen.fault) shown
  pub first_type : AllByRecursion (λ seen. (rtype : RrType) → Shows setting query rtype seen.fault → number_of seen.rtype ≤ number_of rtype) shown
  pub all_shown : (fault : Fault) (rtype : RrType) → of_kind fault ≡ true → Shows setting query rtype fault → Contains (map (λ seen. seen.fault) shown) fault

-- a fault is in the list, with this type or one with a lower number
pub record IsCovered (shown : List Seen) (seen : Seen) : Type 0 where
  pub by : Seen
  pub has : Contains shown by
  pub fault_is : by.fault ≡ seen.fault
  pub not_later : number_of by.rtype ≤ number_of seen.rtype

-- the first type of each fault in a list, in fault order
pub record AreFirstTypes (all first : List Seen) : Type 0 where
  pub ordered : AllPairs (λ a b. fault_cmp a.fault b.fault ≡ Less) first
  pub from : (seen : Seen) → Contains first seen → Contains all seen
  pub covers : (seen : Seen) → Contains all seen → IsCovered first seen
