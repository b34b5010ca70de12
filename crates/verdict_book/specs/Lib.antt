pub mod Items
pub mod Books
pub mod Refusals
pub mod Keeping
pub mod Lists
pub mod Ranks
pub mod Sevens
