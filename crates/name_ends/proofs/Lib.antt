pub mod KnownNames
pub mod NameWalks
mod WalksAtOnce
