pub use Rattle.dns_data.specs.Label
pub use Rattle.dns_data.specs.Name
pub mod Keys
pub mod Table
