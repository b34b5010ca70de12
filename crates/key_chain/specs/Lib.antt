pub use Rattle.kept_data.specs.Octets
pub use Rattle.kept_data.specs.Numbers
pub mod Keys
pub mod Records
