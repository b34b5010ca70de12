pub use Rattle.net_model.specs.Lookup
pub use Rattle.net_model.specs.OpenTail
pub use Rattle.name_rules.specs.SymName
pub mod Answers
pub mod TypedFound
