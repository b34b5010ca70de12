pub use Rattle.dns_data.specs.Answers
pub use Rattle.dns_data.specs.Spelling
pub mod PartNames
