pub use Rattle.plain_resolver.specs.Passed
pub mod Ends
pub mod Asked
pub mod AtOnce
