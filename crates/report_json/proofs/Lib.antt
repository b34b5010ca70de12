pub mod LineFeed
pub mod PlainValues
pub mod ReadBack
pub mod Sending
pub mod TextsRead
pub mod Walks
pub mod Commas
pub mod PiecesJoined
mod Worked
