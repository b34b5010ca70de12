pub use Rattle.net_model.specs.Learnt
pub use Rattle.graph_form.specs.GraphOf
pub mod Addresses
pub mod Dependents
pub mod Direction
pub mod Giving
pub mod Sets
