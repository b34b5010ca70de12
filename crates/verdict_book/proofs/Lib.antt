pub mod Places
pub mod Ranks
pub mod Items
pub mod Once
pub mod Keeping
pub mod Walks
pub mod Whole
pub mod WorkedValues
