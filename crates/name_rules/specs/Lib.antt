pub use Rattle.dns_data.specs.Name
pub use Rattle.net_model.specs.Lookup
pub mod SymName
