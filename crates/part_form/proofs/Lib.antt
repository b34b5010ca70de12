pub mod HeldParts
pub mod PlacesRead
pub mod ReadBack
pub mod Refusals
pub mod Sums
