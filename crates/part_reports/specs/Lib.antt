pub mod Bounds
pub mod Gathered
pub mod Owned
pub mod PartReport
pub mod Reported
pub use Rattle.part_laws.specs.Part
pub use Rattle.graph_form.specs.FirstFaults
