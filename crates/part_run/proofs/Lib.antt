mod EntriesClassed
pub mod OwnTree
mod PartReported
mod TextMade
