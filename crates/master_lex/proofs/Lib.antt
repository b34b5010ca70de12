pub mod Ahead
pub mod Steps
pub mod UndoLemmas
pub mod PlainLemmas
pub mod Running
pub mod Reached
pub mod Lines
pub mod LastLemmas
pub mod Settled
pub mod StandsLemmas
pub mod Values
pub mod Spelled
pub mod SpelledFronts
mod Worked
