pub use Rattle.net_model.specs.Lookup
pub use Rattle.net_model.specs.Order
pub use Rattle.net_model.specs.Zone
pub mod Cuts
pub mod Found
