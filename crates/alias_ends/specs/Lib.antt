pub use Rattle.name_ends.specs.Ends
pub use Rattle.plain_resolver.specs.FromServer
pub use Rattle.plain_resolver.specs.WalkEnds
pub mod Aliases
pub mod Known
