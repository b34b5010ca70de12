pub mod AsAsked
pub mod OneReading
pub mod Written
mod Pieces
