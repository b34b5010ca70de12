mod ByText
mod DecidersAbove
mod Descents
pub mod Existing
mod FrontDeciders
mod InPlace
mod KeyedRuns
mod LastUpTo
mod Merged
mod NameData
mod NameTexts
mod NamesBelow
mod NextDeciders
mod OneDatum
mod Owned
mod OwnedLists
pub mod Prefixes
pub mod SortedTree
pub mod Types
