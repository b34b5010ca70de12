mod LastUpTo
pub mod NameKeys
pub mod Pairs
mod PassedChildren
pub mod SearchedNames
pub mod Tables
