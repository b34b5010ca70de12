pub use Rattle.dns_data.specs.Number
pub use Rattle.dns_data.specs.Rdata
pub mod Numbers
pub mod Octets
