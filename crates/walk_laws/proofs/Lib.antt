pub mod FaultsCarried
pub mod GivenSets
pub mod JoinedGround
pub mod Represents
pub mod Returns
pub mod SameOutcomes
pub mod WalksAlike
mod Worked
