pub use Rattle.dns_data.specs.DataText
pub use Rattle.net_model.specs.Order
pub mod Serials
pub mod Versions
pub mod Plain
