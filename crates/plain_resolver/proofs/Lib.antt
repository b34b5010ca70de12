pub mod AskedWalks
pub mod FirstPassed
pub mod FromNone
mod KnownRounds
mod Learning
mod NewNames
mod PassingWalks
pub mod Resolved
mod ShownWalks
mod WaitingWalks
pub mod WalksFrom
