-- The list of a work's items with their verdicts.
use Rattle.std.specs.Prelude.{◌≡◌, ◌≤◌, ℕ, [], List, All, map}
use Rattle.std.specs.List.Sorted.{IsSortedByKey}
use Rattle.std.specs.declared.cmp.Ordering.{Ordering}
use Rattle.verdict_book.specs.Items.{AreReachedItems, ReachesMore}
use Rattle.verdict_book.specs.Books.{Pages}
use Rattle.verdict_book.specs.declared.walk.PoolFault.{PoolFault}
use Rattle.verdict_book.specs.declared.walk.PoolFault.TheVariants.{TooMany, NoMemory}
use Rattle.verdict_book.specs.declared.filed.Filed.{Filed}
use Rattle.verdict_book.specs.declared.row.TicketState.{TicketState}
use Rattle.verdict_book.specs.declared.row.TicketState.TheVariants.{Issued, Claimed, Filed as FiledState}
use Rattle.verdict_book.specs.declared.row.Row.{Row}

-- the verdict is that of the item
abbrev pub Judges : {W I V : Type 0} → (I → V) → Filed W I V → Type 0
Judges verdict_of filed = filed.verdict ≡ verdict_of filed.item

-- the state is that of a filed ticket, with the verdict of its item
abbrev pub JudgesState : {I V : Type 0} → (I → V) → I → TicketState V → Type 0
JudgesState verdict_of item Issued = ⊥
JudgesState verdict_of item Claimed = ⊥
JudgesState verdict_of item (FiledState verdict) = verdict ≡ verdict_of item

-- the row is that of a filed ticket, with the verdict of its item
abbrev pub JudgesRow : {I V : Type 0} → (I → V) → Row I V → Type 0
JudgesRow verdict_of row = JudgesState verdict_of row.item row.state

-- the list has each reached item once, in order, with its verdict
pub record IsWholeTree {W I V : Type 0} (cmp : I → I → Ordering) (first : I) (children : I → List I)
    (verdict_of : I → V) (list : List (Filed W I V)) : Type 0 where
  pub reached : AreReachedItems first children (map (λ (f : Filed W I V). f.item) list)
  pub sorted : IsSortedByKey (λ (f : Filed W I V). f.item) cmp list
  pub verdicts : All (Judges verdict_of) list

-- what is said where there is no list: more items are reached than the limit, which it carries; or memory ran out
abbrev pub IsPoolFault : {I : Type 0} → I → (I → List I) → ℕ → PoolFault → Type 0
IsPoolFault first children limit (TooMany most) = (most ≡ limit) × ReachesMore first children limit
IsPoolFault first children limit NoMemory = Unit {0}

-- no entry stands in the book
abbrev pub IsNewBook : Pages → Type 0
IsNewBook pages = (pages.history ≡ []) × (1 ≤ pages.limit)
