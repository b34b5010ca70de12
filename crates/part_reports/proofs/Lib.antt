pub mod LocalClasses
pub mod ShownByParts
pub mod PassedByParts
pub mod EntriesAlike
pub mod GatheredEntries
pub mod Counts
pub mod Sizes
pub mod WholeReport
pub mod BoundsOnce
pub mod ByBounds
pub mod OwnHeld
mod Worked
pub mod ClassedReport
pub mod Following
pub mod Chosen
pub mod MergedReport
pub mod InOrder
