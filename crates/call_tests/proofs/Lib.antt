pub mod NamedClasses
pub mod OpenNames
