-- Items of a work: which are reached, and which tickets of a history have which items.
use Rattle.std.specs.Prelude.{◌≡◌, ◌↔◌, ℕ, ◌<◌, ◌++◌, true, List, [], ◌∷◌, length, fold, Some, slice_get, slice_index_or}
use Rattle.pool_core.specs.declared.history.HistoryEntry.{HistoryEntry}
use Rattle.pool_core.specs.declared.history.HistoryEntry.TheVariants.{File}
use Rattle.pool_core.specs.History.{issued_in, is_filed_in, is_legal}

-- the item stands at this place among the children of its parent
abbrev pub IsChildAt : {I : Type 0} → (I → List I) → I → ℕ → I → Type 0
IsChildAt children parent place item = slice_get (children parent) place ≡ Some item

-- each next item of the path is a child of the one before, from this item to the last one
abbrev pub IsItemPath : {I : Type 0} → (I → List I) → I → List I → I → Type 0
IsItemPath children from [] to = from ≡ to
IsItemPath children from (next ∷ path) to =
    ((place : ℕ) × IsChildAt children from place next) × IsItemPath children next path to

-- the item is at the end of a path from the first item
abbrev pub Reached : {I : Type 0} → I → (I → List I) → I → Type 0
Reached {I} first children item = (path : List I) × IsItemPath children first path item

-- no item is a child twice, of one or of two reached items, and the first item is a child of no reached item
pub record ParentsApart {I : Type 0} (first : I) (children : I → List I) : Type 0 where
  pub one : (parent other : I) (place place' : ℕ) (item : I)
      → Reached first children parent → Reached first children other
      → IsChildAt children parent place item → IsChildAt children other place' item
      → (parent ≡ other) × (place ≡ place')
  pub none_of_first : (parent : I) (place : ℕ) → Reached first children parent
      → IsChildAt children parent place first → ⊥

-- no item stands at two places
abbrev pub NoneTwice : {I : Type 0} → List I → Type 0
NoneTwice {I} items =
    (place place' : ℕ) (item : I) → slice_get items place ≡ Some item → slice_get items place' ≡ Some item
    → place ≡ place'

-- the items are the reached ones, each once
pub record AreReachedItems {I : Type 0} (first : I) (children : I → List I) (items : List I) : Type 0 where
  pub each : (item : I) → Reached first children item ↔ ((place : ℕ) × (slice_get items place ≡ Some item))
  pub once : NoneTwice items

-- exactly so many items are reached
pub record ReachesExactly {I : Type 0} (first : I) (children : I → List I) (count : ℕ) : Type 0 where
  pub items : List I
  pub len : length items ≡ count
  pub reached : AreReachedItems first children items

-- more items than so many are reached
pub record ReachesMore {I : Type 0} (first : I) (children : I → List I) (count : ℕ) : Type 0 where
  pub items : List I
  pub more : count < length items
  pub reached : (place : ℕ) (item : I) → slice_get items place ≡ Some item → Reached first children item
  pub once : NoneTwice items

-- the items after an entry: a filing adds the children of the filed item, in order
abbrev pub item_step : {I : Type 0} → I → (I → List I) → List I → HistoryEntry → List I
item_step first children items (File ticket count) = items ++ children (slice_index_or items ticket first)
item_step first children items entry = items

-- the items after these entries
abbrev pub items_from : {I : Type 0} → I → (I → List I) → List I → List HistoryEntry → List I
items_from first children items history = fold (item_step first children) items history

-- the items of a history, by ticket: ticket 0 has the first item, and the tickets of each filing have the children of
-- the filed item, in order
abbrev pub items_of : {I : Type 0} → I → (I → List I) → List HistoryEntry → List I
items_of first children history = items_from first children (first ∷ []) history

-- the item of an issued ticket
abbrev pub item_of : {I : Type 0} → I → (I → List I) → List HistoryEntry → ℕ → I
item_of first children history ticket = slice_index_or (items_of first children history) ticket first

-- the number in an entry is that of the children of the filed item
abbrev pub CountsRight : {I : Type 0} → I → (I → List I) → List I → HistoryEntry → Type 0
CountsRight first children items (File ticket count) = count ≡ length (children (slice_index_or items ticket first))
CountsRight first children items entry = Unit {0}

-- the number in each entry is that of the children of the filed item, where the history before had these items
abbrev pub AllCountRight : {I : Type 0} → I → (I → List I) → List I → List HistoryEntry → Type 0
AllCountRight first children items [] = Unit {0}
AllCountRight first children items (entry ∷ entries) =
    CountsRight first children items entry × AllCountRight first children (item_step first children items entry) entries

-- where a legal history files every issued ticket, and the number in each filing is that of the children of the filed
-- item, its items are the reached items, each once
abbrev pub FilesAllReached : {I : Type 0} → I → (I → List I) → Type 0
FilesAllReached first children =
    (limit : ℕ) (history : List HistoryEntry) → is_legal limit history ≡ true
    → AllCountRight first children (first ∷ []) history
    → ((ticket : ℕ) → ticket < issued_in history → is_filed_in history ticket ≡ true)
    → AreReachedItems first children (items_of first children history)
