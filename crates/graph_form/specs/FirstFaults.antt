-- Of items that have a fault, of each fault the first.
use Rattle.std.specs.Prelude.{◌≡◌, ◌≢◌, Bool, true, not, List, Option, Contains, AllPairs}
use Rattle.std.specs.Option.{option_map_or}
use Rattle.std.specs.Ordering.{is_eq, ordering_then}
use Rattle.std.specs.declared.cmp.Ordering.{Ordering}
use Rattle.std.specs.declared.cmp.Ordering.TheVariants.{Less}
use Rattle.net_model.specs.FaultOrder.{fault_cmp}
use Rattle.net_model.specs.declared.fault.Fault.{Fault}

module _ {T : Type 0} (fault_of : T → Fault) (rank : T → T → Ordering) where
  -- one of the items has the fault, and this one isn't before it
  pub record IsRanked (items : List T) (item : T) : Type 0 where
    pub by : T
    pub has : Contains items by
    pub fault_is : fault_of by ≡ fault_of item
    pub not_later : rank item by ≢ Less

  -- the first item of each fault in a list, in fault order
  pub record AreFirsts (all first : List T) : Type 0 where
    pub ordered : AllPairs (λ a b. fault_cmp (fault_of a) (fault_of b) ≡ Less) first
    pub from : (item : T) → Contains first item → Contains all item
    pub covers : (item : T) → Contains all item → IsRanked first item

  -- the order of faults, and of items with one fault
  abbrev pub item_cmp : T → T → Ordering
  item_cmp a b = ordering_then (fault_cmp (fault_of a) (fault_of b)) (rank a b)

-- the next has another fault than the last, if there is one
abbrev pub is_next : {T : Type 0} → (T → Fault) → Option T → T → Bool
is_next fault_of last next = option_map_or (λ item. not (is_eq (fault_cmp (fault_of item) (fault_of next)))) last true
